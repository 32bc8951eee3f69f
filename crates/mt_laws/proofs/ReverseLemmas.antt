-- A way, and one after it that changes the same types, give back the workflow's part.
use Rattle.std.proofs.Common.{◌≡◌, ℕ, Bool, true, false, not, List, [], ◌∷◌, Option, None, Some, is_some, refl, sym, ap, ◌∙◌, subst}
use Rattle.std.proofs.lemmas.Bool.{true≢false, not-false}
use Rattle.std.specs.Option.{option_map_or}
use Rattle.std.specs.Prelude.{◌&&◌, option_map}
use Rattle.mt_names.specs.declared.types.TabletType.{TabletType}
use Rattle.mt_names.specs.declared.types.TabletType.TheVariants.{Primary, Replica, Rdonly}
use Rattle.mt_names.specs.declared.types.TypeSet.{TypeSet}
use Rattle.mt_names.specs.Names.{same_text}
use Rattle.mt_names.specs.Types.{has as has_type}
use Rattle.mt_names.proofs.SameLemmas.{same_text_decides}
use Rattle.mt_names.proofs.TypeLemmas.{same_members}
use Rattle.mt_model.specs.declared.entries.EntryKey.{EntryKey}
use Rattle.mt_model.specs.Topology.{value_of}
use Rattle.mt_plain.specs.Answers.{Answers, Run, after}
use Rattle.mt_plain.specs.Drive.{way_of}
use Rattle.mt_plain.specs.Events.{Event, step, Answer, done, row, advanced, shown, refused, Way}
use Rattle.mt_plain.specs.Next.{next}
use Rattle.mt_plain.specs.Plain.{Live, Plain, before_way, changed_types, differ, has_part, live_at}
use Rattle.mt_plain.specs.Serve.{served_entry}
use Rattle.mt_laws.specs.Changes.{HasSides, IsStep}
use Rattle.mt_laws.specs.WayBack.{EndsNoWay, IsBegin, IsReached, NoWayBetween, StaysLive, WayFrom, ends_way, in_part}
use Rattle.mt_laws.proofs.LiveLemmas.{find_some, sides_joined, sides_same}
use Rattle.mt_laws.proofs.PartLemmas.{HasParts, IsSettled}
use Rattle.mt_laws.proofs.ReachLemmas.{next_has_parts, reached_has_parts, run_has_parts}
use Rattle.mt_laws.proofs.TrafficLemmas.{closed, rest-same, way_at}
use Rattle.mt_laws.proofs.UntouchedLemmas.{same_workflow}
use Rattle.mt_laws.proofs.WayBackLemmas.{OneEvent, has_part-same, in_part-of, one_event}
use Rattle.mt_laws.proofs.WayLemmas.{WayChange, abandoned, begun, completed, goes_on, kept}
use Rattle.mt_laws.proofs.WayStepLemmas.{no_way, one_way}

-- ---- closed by its last step: the types after the way are switched

stepped_switched : (name : List ℕ) (at : ℕ) (w v : Live) (way : Way) → WayChange (step name at) w v → w.way ≡ Some way → v.way ≡ None → v.switched ≡ way.after
stepped_switched name at w v way (kept same_way same_switched) opens rests = no_way v.way way rests (same_way ∙ opens)
stepped_switched name at w v way (begun first begins was now is same) opens rests = absurd begins
stepped_switched name at w v way (goes_on first later was now same_before same_after holds) opens rests = no_way v.way later rests now
stepped_switched name at w v way (completed first steps was now is) opens rests =
    is ∙ ap (λ x. x.after) (one_way w.way first way was opens)
stepped_switched name at w v way (abandoned first undoes was now is journal) opens rests = absurd undoes

-- ---- between two ways

-- a workflow that an event leaves alone has no way closed by it
closes_nothing : (p q : Plain) (name : List ℕ) (w v : Live) (way : Way) → live_at p name ≡ Some w → live_at q name ≡ Some v → live_at q name ≡ live_at p name → w.way ≡ Some way → v.way ≡ None → ⊥
closes_nothing p q name w v way before now same opens rests =
    let h : Some v ≡ Some w = sym now ∙ same ∙ before in
    let one : v ≡ w = cc in
    let e : None ≡ Some way = sym rests ∙ ap (λ x. x.way) one ∙ opens in
    absurd cc

module _ (p : Plain) (workflow : List ℕ) (at : ℕ) (name : List ℕ) (w v : Live) (way : Way) (before : live_at p name ≡ Some w) (opens : w.way ≡ Some way) (rests : v.way ≡ None) where
  step_here : (answer : Answer) → Answers p (step workflow at) answer → live_at (next p (step workflow at) answer) name ≡ Some v → same_text workflow name ≡ true → ends_way name p (step workflow at) answer ≡ true
  step_here done given now here =
      ap (λ t. t && not (is_some (way_of (next p (step workflow at) done) name))) here
      ∙ ap (λ o. not (is_some o)) (way_at (next p (step workflow at) done) name v now ∙ rests)
  step_here (row r) given now here = let h : row r ≡ done = given.1 in absurd cc
  step_here (shown s) given now here = absurd (closes_nothing p p name w v way before now refl opens rests)
  step_here (advanced events rows) given now here = absurd (closes_nothing p p name w v way before now refl opens rests)
  step_here (refused refusal) given now here = absurd (closes_nothing p p name w v way before now refl opens rests)

  step_ends : (answer : Answer) → Answers p (step workflow at) answer → live_at (next p (step workflow at) answer) name ≡ Some v → ends_way name p (step workflow at) answer ≡ true
  step_ends answer given now = by (same_text workflow name) refl
    where
      by : (t : Bool) → same_text workflow name ≡ t → ends_way name p (step workflow at) answer ≡ true
      by true t = step_here answer given now t
      by false t =
          absurd (closes_nothing p (next p (step workflow at) answer) name w v way before now
          (same_workflow p (step workflow at) answer name (λ is. true≢false (sym ((same_text_decides workflow name).1 is) ∙ t))) opens rests)

ends_it : (p : Plain) (event : Event) (answer : Answer) (name : List ℕ) (w v : Live) (way : Way) → Answers p event answer → IsStep event → live_at p name ≡ Some w → live_at (next p event answer) name ≡ Some v → w.way ≡ Some way → v.way ≡ None → ends_way name p event answer ≡ true
ends_it p (step workflow at) answer name w v way given steps before now opens rests = step_ends p workflow at name w v way before opens rests answer given now
ends_it p event answer name w v way given steps before now opens rests = absurd steps

abbrev before_of : Option Way → TypeSet → TypeSet
before_of o switched = option_map_or (λ way. way.before) o switched

-- the types from before the open way, or those switched, change with a last step alone
same_before : (event : Event) (w v : Live) → WayChange event w v → IsSettled w → (IsStep event → (way : Way) → w.way ≡ Some way → v.way ≡ None → ⊥) → before_way v ≡ before_way w
same_before event w v (kept same_way same_switched) settled other = ap (λ o. before_of o v.switched) same_way ∙ ap (before_of w.way) same_switched
same_before event w v (begun way begins rests now is same) settled other =
    ap (λ o. before_of o v.switched) now ∙ is ∙ sym (ap (λ o. before_of o w.switched) rests)
same_before event w v (goes_on way later was now is_before is_after holds) settled other =
    ap (λ o. before_of o v.switched) now ∙ is_before ∙ sym (ap (λ o. before_of o w.switched) was)
same_before event w v (completed way steps was now is) settled other = absurd (other steps way was now)
same_before event w v (abandoned way undoes was now is journal) settled other =
    ap (λ o. before_of o v.switched) now ∙ is ∙ settled way was journal ∙ sym (ap (λ o. before_of o w.switched) was)

record Between (p q : Plain) (name : List ℕ) (w : Live) : Type 0 where
  later : Live
  live : live_at q name ≡ Some later
  sides : HasSides w later
  before : before_way later ≡ before_way w
  values : (key : EntryKey) → has_part w key ≡ true → value_of q.topology key ≡ value_of p.topology key

between_on : (p : Plain) (event : Event) (answer : Answer) (r : Plain) (name : List ℕ) (w : Live) → HasParts p → live_at p name ≡ Some w → Answers p event answer → ends_way name p event answer ≡ false
    → (one : OneEvent p (next p event answer) event name w) → Between (next p event answer) r name one.later → Between p r name w
between_on p event answer r name w has live given none one rest = record {
  later = rest.later;
  live = rest.live;
  sides = sides_joined w one.later rest.later one.sides rest.sides;
  before =
      rest.before
      ∙ same_before event w one.later one.change (has.settled w (find_some (λ x. same_text x.name name) p.lives w live).0)
      (λ steps way opens rests. true≢false (sym (ends_it p event answer name w one.later way given steps live one.live opens rests) ∙ none));
  values = λ key part. rest.values key (sym (has_part-same w one.later one.sides key) ∙ part) ∙ one.values key part;
}

between_run : (events : List Event) (answers : List Answer) (p : Plain) (name : List ℕ) (w : Live) → HasParts p → live_at p name ≡ Some w → Run p events answers → StaysLive name events answers → EndsNoWay name p events answers → Between p (after p events answers) name w
between_run [] answers p name w has live run stays none = record { later = w; live = live; sides = sides_same w; before = refl; values = λ key part. refl }
between_run (event ∷ events) [] p name w has live run stays none = record { later = w; live = live; sides = sides_same w; before = refl; values = λ key part. refl }
between_run (event ∷ events) (answer ∷ answers) p name w has live run stays none =
    let one = one_event p event answer name w has live run.0 stays.0 in
    between_on p event answer (after (next p event answer) events answers) name w has live run.0 none.0 one
    (between_run events answers (next p event answer) name one.later (next_has_parts p event answer has run.0) one.live run.1 stays.1 none.1)

-- ---- back

differ_back : (a b d : Bool) → differ a b ≡ differ b d → d ≡ a
differ_back true true d e = not-false d (sym e)
differ_back true false d e = sym e
differ_back false true true e = absurd (true≢false e)
differ_back false true false e = refl
differ_back false false d e = sym e

-- a way from where another one led, which changes the same types, leads to where that began
types_back : (first second : Way) → second.before ≡ first.after → changed_types first ≡ changed_types second → second.after ≡ first.before
types_back first second from same = same_members second.after first.before by
  where
    by : (type : TabletType) → has_type second.after type ≡ has_type first.before type
    by Primary =
        differ_back first.before.primary first.after.primary second.after.primary
        (ap (λ s. s.primary) same ∙ ap (λ s. differ s.primary second.after.primary) from)
    by Replica =
        differ_back first.before.replica first.after.replica second.after.replica
        (ap (λ s. s.replica) same ∙ ap (λ s. differ s.replica second.after.replica) from)
    by Rdonly =
        differ_back first.before.rdonly first.after.rdonly second.after.rdonly
        (ap (λ s. s.rdonly) same ∙ ap (λ s. differ s.rdonly second.after.rdonly) from)

module _ (name : List ℕ) (begin again : Event) (at at_again : ℕ) (p q r s : Plain) (reached : IsReached p) (is : IsBegin name begin) (is_again : IsBegin name again)
    (there : WayFrom name begin (step name at) p q) (between : NoWayBetween name q r) (back_again : WayFrom name again (step name at_again) r s)
    (same : option_map changed_types (way_of (next p begin done) name) ≡ option_map changed_types (way_of (next r again done) name)) where
  pub both_ways : (key : EntryKey) → in_part p name key ≡ true → served_entry s key ≡ served_entry p key
  both_ways key part =
      let has = reached_has_parts p reached in
      let c = closed name begin (step name at) p q has is refl there in
      let mid = between_run between.events between.answers q name c.final c.parts c.live_final between.run between.live between.none in
      let has_r = subst HasParts between.is (run_has_parts between.events between.answers q between.run c.parts) in
      let d = closed name again (step name at_again) r s has_r is_again refl back_again in
      let found : Some mid.later ≡ Some d.first = sym mid.live ∙ ap (λ x. live_at x name) between.is ∙ d.live_first in
      let one : mid.later ≡ d.first = cc in
      let changes : Some (changed_types c.way) ≡ Some (changed_types d.way) = sym (ap (option_map changed_types) c.begins) ∙ same ∙ ap (option_map changed_types) d.begins in
      let same_types : changed_types c.way ≡ changed_types d.way = cc in
      let led_to : c.final.switched ≡ c.way.after = stepped_switched name at c.open_to c.final c.opened c.change c.opens c.rests_again ∙ c.behind_open in
      let stayed : d.first.switched ≡ c.final.switched =
      sym (ap (λ o. before_of o d.first.switched) d.rests) ∙ ap before_way (sym one) ∙ mid.before ∙ ap (λ o. before_of o c.final.switched) c.rests_again in
      let ended : d.final.switched ≡ d.way.after = stepped_switched name at_again d.open_to d.final d.opened d.change d.opens d.rests_again ∙ d.behind_open in
      let turned = types_back c.way d.way (d.before ∙ stayed ∙ led_to) same_types in
      let to_first : HasSides c.first d.first = subst (HasSides c.first) one (sides_joined c.first c.final mid.later c.sides mid.sides) in
      let mine : has_part c.first key ≡ true = sym (in_part-of p name c.first key c.live_first) ∙ part in
      rest-same p s name c.first d.final key has d.parts c.live_first d.live_final c.rests d.rests_again (sides_joined c.first d.first d.final to_first d.sides)
      (ended ∙ turned ∙ c.before)
      (d.values key (sym (has_part-same c.first d.first to_first key) ∙ mine)
      ∙ ap (λ x. value_of x.topology key) (sym between.is)
      ∙ mid.values key (sym (has_part-same c.first c.final c.sides key) ∙ mine)
      ∙ c.values key mine) mine
