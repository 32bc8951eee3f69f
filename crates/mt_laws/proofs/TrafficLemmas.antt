-- A way from its begin to its end: what it leaves of the workflow's part.
use Rattle.std.proofs.Common.{◌≡◌, ℕ, Bool, true, false, not, List, [], ◌∷◌, find, Option, None, Some, is_some, refl, sym, ap, ◌∙◌, subst}
use Rattle.std.proofs.lemmas.Bool.{true≢false}
use Rattle.std.specs.Option.{option_map_or}
use Rattle.std.specs.Prelude.{option_and_then}
use Rattle.mt_names.specs.declared.keys.RuleKey.{RuleKey}
use Rattle.mt_names.specs.declared.types.TabletType.{TabletType}
use Rattle.mt_names.specs.declared.types.TabletType.TheVariants.{Primary, Replica, Rdonly}
use Rattle.mt_names.specs.declared.types.TypeSet.{TypeSet}
use Rattle.mt_names.specs.Names.{same_text}
use Rattle.mt_names.specs.Types.{has}
use Rattle.mt_names.proofs.SameLemmas.{same_text_decides}
use Rattle.mt_model.specs.declared.entries.Entry.TheVariants as entry
use Rattle.mt_model.specs.declared.entries.EntryKey.{EntryKey}
use Rattle.mt_model.specs.declared.entries.EntryKey.TheVariants as about
use Rattle.mt_model.specs.Topology.{TopologyState, rule_at, value_of}
use Rattle.mt_plain.specs.Answers.{Run, after}
use Rattle.mt_plain.specs.Drive.{way_of}
use Rattle.mt_plain.specs.Events.{Event, begin_switch, begin_reverse, undo, cancel, complete, Answer, done, Way}
use Rattle.mt_plain.specs.Next.{next}
use Rattle.mt_plain.specs.Plain.{Live, Plain, has_part, live_at}
use Rattle.mt_plain.specs.Refuse.{begin_reverse_refusal, begin_switch_refusal, refusal_of}
use Rattle.mt_plain.specs.Serve.{serve, serve_plain, serve_rule, served_by, served_entry, step_of_entry}
use Rattle.mt_laws.specs.Changes.{HasSides}
use Rattle.mt_laws.specs.WayBack.{IsBegin, IsReached, StaysOpen, WayFrom, ends_workflow, in_part}
use Rattle.mt_laws.proofs.ChangeLemmas.{lives-completed}
use Rattle.mt_laws.proofs.EntryValueLemmas.{rule_from_value}
use Rattle.mt_laws.proofs.LiveLemmas.{find-filter_gone, find_some, sides_joined, sides_same}
use Rattle.mt_laws.proofs.PartLemmas.{HasParts, IsSettled}
use Rattle.mt_laws.proofs.ReachLemmas.{next_has_parts, reached_has_parts, run_has_parts}
use Rattle.mt_laws.proofs.RefusalLemmas.{in_workflow-none, reverse-none, switch-none}
use Rattle.mt_laws.proofs.WayBackLemmas.{has_part-same, in_part-of, one_event, owner_of_part}
use Rattle.mt_laws.proofs.WayLemmas.{WayChange, abandoned, begun, completed, goes_on, kept}
use Rattle.mt_laws.proofs.PlainWords.{types_by_way}
use Rattle.mt_laws.proofs.WayStepLemmas.{no_way, one_way}

-- ---- what a part serves depends on its sides, the switched types and the topology at its keys alone

plain-same : (t u : TopologyState) (v w : Live) (types : TypeSet) (key : RuleKey) → HasSides v w → rule_at t.rules key ≡ rule_at u.rules key → (keyspace : Option (List ℕ)) → serve_plain t v types key keyspace ≡ serve_plain u w types key keyspace
plain-same t u v w types key same rule None = rw (same.source, same.target) refl
plain-same t u v w types key same rule (Some keyspace) = rw (same.source, same.target, rule) refl

rule-same : (t u : TopologyState) (v w : Live) (types : TypeSet) (key : RuleKey) → HasSides v w → rule_at t.rules key ≡ rule_at u.rules key → (type : Option TabletType) → serve_rule t v types key type ≡ serve_rule u w types key type
rule-same t u v w types key same rule None = plain-same t u v w types key same rule key.keyspace
rule-same t u v w types key same rule (Some Primary) = refl
rule-same t u v w types key same rule (Some Replica) = rw (same.source, same.target) refl
rule-same t u v w types key same rule (Some Rdonly) = rw (same.source, same.target) refl

pub serve-same : (t u : TopologyState) (v w : Live) (types : TypeSet) (key : EntryKey) → HasSides v w → value_of t key ≡ value_of u key → serve t v types key ≡ serve u w types key
serve-same t u v w types (about.Rule key) same value = ap (entry.Rule key) (rule-same t u v w types key same (rule_from_value t u key value) key.tablet_type)
serve-same t u v w types (about.Denied keyspace table) same value = rw same.source refl
serve-same t u v w types (about.Present keyspace table) same value = refl

-- at rest a part serves the switched types
served-rest : (p : Plain) (name : List ℕ) (w : Live) (key : EntryKey) → HasParts p → live_at p name ≡ Some w → w.way ≡ None → has_part w key ≡ true → served_entry p key ≡ serve p.topology w w.switched key
served-rest p name w key has live rests part =
    ap (λ o. option_map_or (λ v. served_by p.topology v key) o (value_of p.topology key)) (owner_of_part p name w key has live part)
    ∙ ap (λ o. serve p.topology w (types_by_way w.switched o (step_of_entry w key)) key) rests

-- two states in which a workflow rests with the same types switched
pub rest-same : (p q : Plain) (name : List ℕ) (w v : Live) (key : EntryKey) → HasParts p → HasParts q → live_at p name ≡ Some w → live_at q name ≡ Some v → w.way ≡ None → v.way ≡ None → HasSides w v → v.switched ≡ w.switched
    → value_of q.topology key ≡ value_of p.topology key → has_part w key ≡ true → served_entry q key ≡ served_entry p key
rest-same p q name w v key has_p has_q live_p live_q rest_w rest_v same switched value part =
    served-rest q name v key has_q live_q rest_v (sym (has_part-same w v same key) ∙ part)
    ∙ ap (λ types. serve q.topology v types key) switched
    ∙ sym (serve-same p.topology q.topology w v w.switched key same (sym value))
    ∙ sym (served-rest p name w key has_p live_p rest_w part)

-- ---- while a way is open

pub way_at : (p : Plain) (name : List ℕ) (w : Live) → live_at p name ≡ Some w → way_of p name ≡ w.way
way_at p name w live = ap (λ o. option_and_then (λ v. v.way) o) live

no_way_at : (p : Plain) (name : List ℕ) → live_at p name ≡ None → way_of p name ≡ None
no_way_at p name none = ap (λ o. option_and_then (λ v. v.way) o) none

ended_gone : (p : Plain) (event : Event) (answer : Answer) (name : List ℕ) → ends_workflow name event answer ≡ true → live_at (next p event answer) name ≡ None
ended_gone p (cancel gone) done name ends =
    find-filter_gone (λ x. same_text x.name name) (λ x. not (same_text x.name gone)) p.lives
    (λ x i e. ap not ((same_text_decides x.name gone).1 ((same_text_decides x.name name).0 e ∙ sym ((same_text_decides gone name).0 ends))))
ended_gone p (complete gone) done name ends =
    ap (find (λ x. same_text x.name name)) (lives-completed p gone (live_at p gone) refl)
    ∙ find-filter_gone (λ x. same_text x.name name) (λ x. not (same_text x.name gone)) p.lives
    (λ x i e. ap not ((same_text_decides x.name gone).1 ((same_text_decides x.name name).0 e ∙ sym ((same_text_decides gone name).0 ends))))
ended_gone p event answer name ends = absurd (true≢false (sym ends))

pub open_now : (name : List ℕ) (p : Plain) (events : List Event) (answers : List Answer) → StaysOpen name p events answers → is_some (way_of p name) ≡ true
open_now name p [] answers stays = stays
open_now name p (event ∷ events) [] stays = stays
open_now name p (event ∷ events) (answer ∷ answers) stays = stays.0

-- an event after which a way is open did not end the workflow
pub not_ended_open : (p : Plain) (event : Event) (answer : Answer) (name : List ℕ) → is_some (way_of (next p event answer) name) ≡ true → ends_workflow name event answer ≡ false
not_ended_open p event answer name opens = by (ends_workflow name event answer) refl
  where
    by : (t : Bool) → ends_workflow name event answer ≡ t → ends_workflow name event answer ≡ false
    by true t = absurd (true≢false (sym opens ∙ ap is_some (no_way_at (next p event answer) name (ended_gone p event answer name t))))
    by false t = t

pub record OpenSince (p q : Plain) (name : List ℕ) (w : Live) (way : Way) : Type 0 where
  pub later : Live
  pub opened : Way
  pub live : live_at q name ≡ Some later
  pub sides : HasSides w later
  pub opens : later.way ≡ Some opened
  pub before : opened.before ≡ way.before
  pub behind : opened.after ≡ way.after
  pub values : (key : EntryKey) → has_part w key ≡ true → value_of q.topology key ≡ value_of p.topology key

-- the way goes on
still_open : (event : Event) (w v : Live) (way : Way) → WayChange event w v → w.way ≡ Some way → is_some v.way ≡ true → (later : Way) × (v.way ≡ Some later) × (later.before ≡ way.before) × (later.after ≡ way.after)
still_open event w v way (kept same_way same_switched) was opens = (way, same_way ∙ was, refl, refl)
still_open event w v way (begun first begins rests now is same) was opens = no_way w.way way rests was
still_open event w v way (goes_on first later old now same_before same_after holds) was opens =
    let one = one_way w.way first way old was in
    (later, now, same_before ∙ ap (λ x. x.before) one, same_after ∙ ap (λ x. x.after) one)
still_open event w v way (completed first steps old rests is) was opens = absurd (true≢false (sym opens ∙ ap is_some rests))
still_open event w v way (abandoned first undoes old rests is journal) was opens = absurd (true≢false (sym opens ∙ ap is_some rests))

open_run : (events : List Event) (answers : List Answer) (p : Plain) (name : List ℕ) (w : Live) (way : Way) → HasParts p → live_at p name ≡ Some w → w.way ≡ Some way → Run p events answers → StaysOpen name p events answers → OpenSince p (after p events answers) name w way
open_run [] answers p name w way has live opens run stays =
    record { later = w; opened = way; live = live; sides = sides_same w; opens = opens; before = refl; behind = refl; values = λ key part. refl }
open_run (event ∷ events) [] p name w way has live opens run stays =
    record { later = w; opened = way; live = live; sides = sides_same w; opens = opens; before = refl; behind = refl; values = λ key part. refl }
open_run (event ∷ events) (answer ∷ answers) p name w way has live opens run stays =
    let now = open_now name (next p event answer) events answers stays.1 in
    let one = one_event p event answer name w has live run.0 (not_ended_open p event answer name now) in
    let r = still_open event w one.later way one.change opens (ap is_some (sym (way_at (next p event answer) name one.later one.live)) ∙ now) in
    let rest = open_run events answers (next p event answer) name one.later r.0 (next_has_parts p event answer has run.0) one.live r.1 run.1 stays.1 in
    record {
      later = rest.later;
      opened = rest.opened;
      live = rest.live;
      sides = sides_joined w one.later rest.later one.sides rest.sides;
      opens = rest.opens;
      before = rest.before ∙ r.2;
      behind = rest.behind ∙ r.3;
      values = λ key part. rest.values key (sym (has_part-same w one.later one.sides key) ∙ part) ∙ one.values key part;
    }

-- ---- a whole way

-- a begin is taken of a workflow at rest
pub begin_rests : (p : Plain) (name : List ℕ) (begin : Event) → IsBegin name begin → refusal_of p begin ≡ None → (w : Live) × (live_at p name ≡ Some w) × (w.way ≡ None)
begin_rests p name (begin_switch workflow types) is none =
    let r = in_workflow-none (live_at p workflow) (begin_switch_refusal p types) none in (
      r.0,
      ap (live_at p) (sym is) ∙ r.1,
      (switch-none p types r.0 r.2).0,
    )
begin_rests p name (begin_reverse workflow types) is none =
    let r = in_workflow-none (live_at p workflow) (begin_reverse_refusal p types) none in (
      r.0,
      ap (live_at p) (sym is) ∙ r.1,
      (reverse-none p types r.0 r.2).0,
    )
begin_rests p name event is none = absurd is

pub begin_ends_nothing : (name : List ℕ) (begin : Event) → IsBegin name begin → ends_workflow name begin done ≡ false
begin_ends_nothing name (begin_switch workflow types) is = refl
begin_ends_nothing name (begin_reverse workflow types) is = refl
begin_ends_nothing name event is = absurd is

-- what it begins
begins_way : (event : Event) (w v : Live) → WayChange event w v → w.way ≡ None → is_some v.way ≡ true → (way : Way) × (v.way ≡ Some way) × (way.before ≡ w.switched)
begins_way event w v (kept same_way same_switched) rests opens = absurd (true≢false (sym opens ∙ ap is_some (same_way ∙ rests)))
begins_way event w v (begun way begins was now is same) rests opens = (way, now, is)
begins_way event w v (goes_on way later was now same_before same_after holds) rests opens = no_way w.way way rests was
begins_way event w v (completed way steps was now is) rests opens = no_way w.way way rests was
begins_way event w v (abandoned way undoes was now is journal) rests opens = no_way w.way way rests was

pub record Closed (name : List ℕ) (begin last : Event) (p q : Plain) : Type 0 where
  pub first : Live
  pub live_first : live_at p name ≡ Some first
  pub rests : first.way ≡ None
  pub way : Way
  pub begins : way_of (next p begin done) name ≡ Some way
  pub before : way.before ≡ first.switched
  pub open_to : Live
  pub opened : Way
  pub opens : open_to.way ≡ Some opened
  pub before_open : opened.before ≡ way.before
  pub behind_open : opened.after ≡ way.after
  pub settled : IsSettled open_to
  pub final : Live
  pub live_final : live_at q name ≡ Some final
  pub rests_again : final.way ≡ None
  pub change : WayChange last open_to final
  pub sides : HasSides first final
  pub values : (key : EntryKey) → has_part first key ≡ true → value_of q.topology key ≡ value_of p.topology key
  pub parts : HasParts q

module _ (name : List ℕ) (begin last : Event) (p q : Plain) (has : HasParts p) (is : IsBegin name begin) (ends_not : ends_workflow name last done ≡ false) (way_from : WayFrom name begin last p q) where
  abbrev begun_at : Plain
  begun_at = next p begin done

  abbrev last_at : Plain
  last_at = after begun_at way_from.events way_from.answers

  pub closed : Closed name begin last p q
  closed =
      let start = begin_rests p name begin is way_from.begun.0 in
      let w = start.0 in
      let now = open_now name begun_at way_from.events way_from.answers way_from.stays_open in
      let one = one_event p begin done name w has start.1 way_from.begun (begin_ends_nothing name begin is) in
      let has_begun = next_has_parts p begin done has way_from.begun in
      let opening_way = begins_way begin w one.later one.change start.2 (ap is_some (sym (way_at begun_at name one.later one.live)) ∙ now) in
      let since = open_run way_from.events way_from.answers begun_at name one.later opening_way.0 has_begun one.live opening_way.1 way_from.run way_from.stays_open in
      let has_last = run_has_parts way_from.events way_from.answers begun_at way_from.run has_begun in
      let end = one_event last_at last done name since.later has_last since.live way_from.taken ends_not in
      let sides_open = sides_joined w one.later since.later one.sides since.sides in
      record {
        first = w;
        live_first = start.1;
        rests = start.2;
        way = opening_way.0;
        begins = way_at begun_at name one.later one.live ∙ opening_way.1;
        before = opening_way.2;
        open_to = since.later;
        opened = since.opened;
        opens = since.opens;
        before_open = since.before;
        behind_open = since.behind;
        settled = has_last.settled since.later (find_some (λ x. same_text x.name name) last_at.lives since.later since.live).0;
        final = end.later;
        live_final = ap (λ r. live_at r name) (sym way_from.is) ∙ end.live;
        rests_again = sym (way_at q name end.later (ap (λ r. live_at r name) (sym way_from.is) ∙ end.live)) ∙ way_from.closed;
        change = end.change;
        sides = sides_joined w since.later end.later sides_open end.sides;
        values = λ key part.
            ap (λ r. value_of r.topology key) (sym way_from.is)
            ∙ end.values key (sym (has_part-same w since.later sides_open key) ∙ part)
            ∙ since.values key (sym (has_part-same w one.later one.sides key) ∙ part)
            ∙ one.values key part;
        parts = subst HasParts way_from.is (next_has_parts last_at last done has_last way_from.taken);
      }

-- ---- closed by an undo: nothing is switched that wasn't

undone_switched : (name : List ℕ) (at : ℕ) (w v : Live) (way : Way) → WayChange (undo name at) w v → IsSettled w → w.way ≡ Some way → v.way ≡ None → v.switched ≡ way.before
undone_switched name at w v way (kept same_way same_switched) settled opens rests = no_way v.way way rests (same_way ∙ opens)
undone_switched name at w v way (begun first begins was now is same) settled opens rests = absurd begins
undone_switched name at w v way (goes_on first later was now same_before same_after holds) settled opens rests = no_way v.way later rests now
undone_switched name at w v way (completed first steps was now is) settled opens rests = absurd steps
undone_switched name at w v way (abandoned first undoes was now is journal) settled opens rests =
    is ∙ settled first was journal ∙ ap (λ x. x.before) (one_way w.way first way was opens)

module _ (name : List ℕ) (begin : Event) (at : ℕ) (p q : Plain) (reached : IsReached p) (is : IsBegin name begin) (way_from : WayFrom name begin (undo name at) p q) where
  abbrev back_again : Closed name begin (undo name at) p q
  back_again = closed name begin (undo name at) p q (reached_has_parts p reached) is refl way_from

  same_switched : back_again.final.switched ≡ back_again.first.switched
  same_switched =
      let c = back_again in
      undone_switched name at c.open_to c.final c.opened c.change c.settled c.opens c.rests_again ∙ c.before_open ∙ c.before

  pub abandon_switched : (w v : Live) → live_at p name ≡ Some w → live_at q name ≡ Some v → v.switched ≡ w.switched
  abandon_switched w v before now =
      let c = back_again in
      let first : Some w ≡ Some c.first = sym before ∙ c.live_first in
      let last : Some v ≡ Some c.final = sym now ∙ c.live_final in
      let one : w ≡ c.first = cc in
      let two : v ≡ c.final = cc in
      ap (λ x. x.switched) two ∙ same_switched ∙ sym (ap (λ x. x.switched) one)

  pub abandon_back : (key : EntryKey) → in_part p name key ≡ true → served_entry q key ≡ served_entry p key
  abandon_back key part =
      let c = back_again in
      let mine : has_part c.first key ≡ true = sym (in_part-of p name c.first key c.live_first) ∙ part in
      rest-same p q name c.first c.final key (reached_has_parts p reached) c.parts c.live_first c.live_final c.rests c.rests_again c.sides
      same_switched (c.values key mine) mine
