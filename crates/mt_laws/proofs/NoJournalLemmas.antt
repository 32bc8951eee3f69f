-- A way that an undo closed never came to its journal.
use Rattle.std.proofs.Common.{◌≡◌, ℕ, suc, true, false, cond, eqb, List, [], ◌∷◌, Option, None, Some, is_some, refl, sym, ap, ◌∙◌, subst, arith}
use Rattle.std.proofs.lemmas.Bool.{true≢false, and_parts, false_from_ne_true}
use Rattle.std.specs.Option.{option_map_or}
use Rattle.std.specs.Prelude.{◌&&◌, option_and_then}
use Rattle.mt_names.specs.Names.{same_text}
use Rattle.mt_names.proofs.EntryLemmas.{some_from}
use Rattle.mt_names.proofs.SameLemmas.{same_text_decides}
use Rattle.mt_plain.specs.Next.{closes, journal_after, live_stepped, next}
use Rattle.mt_plain.specs.Answers.{Answers, Run, after}
use Rattle.mt_plain.specs.Drive.{way_of}
use Rattle.mt_plain.specs.Events.{Event, step, undo, Answer, done, row, advanced, shown, refused, Way}
use Rattle.mt_plain.specs.Plain.{Live, Plain, live_at, next_step, stands_done, write_journal}
use Rattle.mt_plain.specs.Refuse.{undo_refusal}
use Rattle.mt_laws.specs.Changes.{IsOf}
use Rattle.mt_laws.specs.Steps.{StaysBeforeJournal, WritesNoJournal, is_past_journal, writes_journal}
use Rattle.mt_laws.specs.WayBack.{IsBegin, IsReached, StaysOpen, WayFrom}
use Rattle.mt_laws.proofs.ChangeLemmas.{live_after, lives_after}
use Rattle.mt_laws.proofs.KeepLemmas.{Keeps, next_has}
use Rattle.mt_laws.proofs.LiveLemmas.{find_some}
use Rattle.mt_laws.proofs.PartLemmas.{HasParts}
use Rattle.mt_laws.proofs.ReachLemmas.{live_by_name, next_has_parts, reached_has_parts}
use Rattle.mt_laws.proofs.RefusalLemmas.{in_workflow-none, reverse-none, switch-none}
use Rattle.mt_laws.proofs.StepUndoneLemmas.{at_way_stepped, one_more}
use Rattle.mt_laws.proofs.TrafficLemmas.{begin_ends_nothing, begin_rests, not_ended_open, open_now, way_at}
use Rattle.mt_laws.proofs.UntouchedLemmas.{same_journal, traffic-advanced}
use Rattle.mt_laws.proofs.WayBackLemmas.{one_event}
use Rattle.mt_laws.proofs.WayLemmas.{journal_once, undo_before_journal}
use Rattle.mt_laws.proofs.WayStepLemmas.{more, no_way, now_done, still_done, way-stepped, way_holds, way_holds-by}

-- ---- behind the journal a way stays behind it as long as it is open

abbrev PastWay : Way → Type 0
PastWay way = stands_done way write_journal ≡ true

abbrev IsPast : Live → Type 0
IsPast w = (way : Way) → w.way ≡ Some way → PastWay way

past_kept : (p : Plain) (event : Event) (w : Live) (open_way : Way) → w.way ≡ Some open_way → IsPast w → Keeps IsPast p event w
past_kept p event w open_way opens past = record {
  same = past;
  switch = λ types begins none. no_way w.way open_way (switch-none p types w none).0 opens;
  reverse = λ types begins none. no_way w.way open_way (reverse-none p types w none).0 opens;
  steps = λ at way steps is none.
      way_holds-by PastWay (live_stepped p w way) (closes way) (more way) (way-stepped p w way) (λ goes_on. still_done way write_journal (past way is));
  undoes = λ at way undoes is none. absurd (true≢false (sym (past way is) ∙ undo_before_journal at w way is none));
  advances = λ adv workflow stream shard at at_most events rows live none given way is.
      past way (sym (ap (λ t. t.1) (traffic-advanced p w stream shard at at_most events rows)) ∙ is);
}

module _ (p : Plain) (event : Event) (answer : Answer) (name : List ℕ) (w : Live) (way : Way) (has : HasParts p) (live : live_at p name ≡ Some w) (opens : w.way ≡ Some way)
    (given : Answers p event answer) (v : Live) (now : live_at (next p event answer) name ≡ Some v) where
  past_next : PastWay way → IsPast v
  past_next past =
      subst IsPast (sym (live_after p (next p event answer) event answer (lives_after p event answer) name w v live now))
      (next_has IsPast p w (live_by_name p has.apart w (find_some (λ x. same_text x.name name) p.lives w live).0) event answer
      (past_kept p event w way opens (way_holds PastWay w way opens past)) given)

-- the journal's step leads behind it
journal_next : (p : Plain) (event : Event) (answer : Answer) (name : List ℕ) (w : Live) (way : Way) → live_at p name ≡ Some w → w.way ≡ Some way → writes_journal name p event answer ≡ true
    → (v : Live) (later : Way) → live_at (next p event answer) name ≡ Some v → v.way ≡ Some later → PastWay later
journal_next p (step workflow at) done name w way live opens writes v later now goes_on =
    let r = and_parts (same_text workflow name) (option_map_or (λ x. eqb (next_step x) write_journal) (way_of p name) false) writes in
    let found = find_some (λ x. same_text x.name name) p.lives w live in
    let here : same_text w.name workflow ≡ true = (same_text_decides w.name workflow).1 ((same_text_decides w.name name).0 found.1 ∙ sym ((same_text_decides workflow name).0 r.0)) in
    let journal : eqb (next_step way) write_journal ≡ true = sym (ap (λ o. option_map_or (λ x. eqb (next_step x) write_journal) o false) (way_at p name w live ∙ opens)) ∙ r.1 in
    let is : v ≡ live_stepped p w way =
    live_after p (next p (step workflow at) done) (step workflow at) done (lives_after p (step workflow at) done) name w v live now
    ∙ at_way_stepped p w workflow way here opens in
    subst PastWay (sym (one_more (closes way) v.way way later (ap (λ x. x.way) is ∙ way-stepped p w way) goes_on)) (now_done way write_journal (omega arith) (journal_once way) journal)
journal_next p event answer name w way live opens writes v later now goes_on = absurd (true≢false (sym writes))

-- ---- a way that an undo closes was never behind it

module _ (name : List ℕ) (at : ℕ) where
  undo_is_refused : (p : Plain) (w : Live) (way : Way) → live_at p name ≡ Some w → w.way ≡ Some way → PastWay way → Answers p (undo name at) done → ⊥
  undo_is_refused p w way live opens past given =
      let stop = in_workflow-none (live_at p name) (undo_refusal at) given.0 in
      let found : Some stop.0 ≡ Some w = sym stop.1 ∙ live in
      let same : stop.0 ≡ w = cc in
      true≢false (sym past ∙ undo_before_journal at w way opens (ap (undo_refusal at) (sym same) ∙ stop.2))

  before_journal : (events : List Event) (answers : List Answer) (p : Plain) (w : Live) (way : Way) → HasParts p → live_at p name ≡ Some w → w.way ≡ Some way → Run p events answers → StaysOpen name p events answers
      → Answers (after p events answers) (undo name at) done → PastWay way → ⊥
  before_journal [] answers p w way has live opens run stays given past = undo_is_refused p w way live opens past given
  before_journal (event ∷ events) [] p w way has live opens run stays given past = undo_is_refused p w way live opens past given
  before_journal (event ∷ events) (answer ∷ answers) p w way has live opens run stays given past =
      let now = open_now name (next p event answer) events answers stays.1 in
      let one = one_event p event answer name w has live run.0 (not_ended_open p event answer name now) in
      let later = some_from one.later.way (ap is_some (sym (way_at (next p event answer) name one.later one.live)) ∙ now) in
      before_journal events answers (next p event answer) one.later later.0 (next_has_parts p event answer has run.0) one.live later.1 run.1 stays.1 given
      (past_next p event answer name w way has live opens run.0 one.later one.live past later.0 later.1)

  not_past : (events : List Event) (answers : List Answer) (p : Plain) (w : Live) (way : Way) → HasParts p → live_at p name ≡ Some w → w.way ≡ Some way → Run p events answers → StaysOpen name p events answers
      → Answers (after p events answers) (undo name at) done → is_past_journal name p ≡ false
  not_past events answers p w way has live opens run stays given =
      ap (λ o. option_map_or (λ x. stands_done x write_journal) o false) (way_at p name w live ∙ opens)
      ∙ false_from_ne_true (stands_done way write_journal) (λ past. before_journal events answers p w way has live opens run stays given past)

  no_journal_run : (events : List Event) (answers : List Answer) (p : Plain) (w : Live) (way : Way) → HasParts p → live_at p name ≡ Some w → w.way ≡ Some way → Run p events answers → StaysOpen name p events answers
      → Answers (after p events answers) (undo name at) done → WritesNoJournal name p events answers × StaysBeforeJournal name p events answers
  no_journal_run [] answers p w way has live opens run stays given = (tt, not_past [] answers p w way has live opens run stays given)
  no_journal_run (event ∷ events) [] p w way has live opens run stays given = (tt, not_past (event ∷ events) [] p w way has live opens run stays given)
  no_journal_run (event ∷ events) (answer ∷ answers) p w way has live opens run stays given =
      let now = open_now name (next p event answer) events answers stays.1 in
      let one = one_event p event answer name w has live run.0 (not_ended_open p event answer name now) in
      let later = some_from one.later.way (ap is_some (sym (way_at (next p event answer) name one.later one.live)) ∙ now) in
      let has_next = next_has_parts p event answer has run.0 in
      let rest = no_journal_run events answers (next p event answer) one.later later.0 has_next one.live later.1 run.1 stays.1 given in
      let first : writes_journal name p event answer ≡ false =
      false_from_ne_true (writes_journal name p event answer)
      (λ writes. before_journal events answers (next p event answer) one.later later.0 has_next one.live later.1 run.1 stays.1 given
      (journal_next p event answer name w way live opens writes one.later later.0 one.live later.1)) in
      ((first, rest.0), (not_past (event ∷ events) (answer ∷ answers) p w way has live opens run stays given, rest.1))

module _ (name : List ℕ) (begin : Event) (at : ℕ) (p q : Plain) (reached : IsReached p) (is : IsBegin name begin) (way_from : WayFrom name begin (undo name at) p q) where
  abbrev begun_at : Plain
  begun_at = next p begin done

  both : WritesNoJournal name begun_at way_from.events way_from.answers × StaysBeforeJournal name begun_at way_from.events way_from.answers
  both =
      let has = reached_has_parts p reached in
      let start = begin_rests p name begin is way_from.begun.0 in
      let now = open_now name begun_at way_from.events way_from.answers way_from.stays_open in
      let one = one_event p begin done name start.0 has start.1 way_from.begun (begin_ends_nothing name begin is) in
      let opened = some_from one.later.way (ap is_some (sym (way_at begun_at name one.later one.live)) ∙ now) in
      no_journal_run name at way_from.events way_from.answers begun_at one.later opened.0 (next_has_parts p begin done has way_from.begun) one.live opened.1 way_from.run way_from.stays_open way_from.taken

  pub no_journal : WritesNoJournal name begun_at way_from.events way_from.answers
  no_journal = both.0

  pub before_it : StaysBeforeJournal name begun_at way_from.events way_from.answers
  before_it = both.1

-- ---- the journal's entries

module _ (p : Plain) where
  abbrev one_entry_more : Option Way → ℕ
  one_entry_more o = cond (option_map_or (λ way. eqb (next_step way) write_journal) o false) (suc p.journal) p.journal

  counted_by_way : (o : Option Way) → option_map_or (λ way. cond (eqb (next_step way) write_journal) (suc p.journal) p.journal) o p.journal ≡ one_entry_more o
  counted_by_way None = refl
  counted_by_way (Some way) = refl

  counted_by_live : (o : Option Live) → journal_after p o ≡ one_entry_more (option_and_then (λ w. w.way) o)
  counted_by_live None = refl
  counted_by_live (Some w) = counted_by_way w.way

  counted_step : (workflow : List ℕ) (at : ℕ) → journal_after p (live_at p workflow) ≡ cond (writes_journal workflow p (step workflow at) done) (suc p.journal) p.journal
  counted_step workflow at =
      counted_by_live (live_at p workflow)
      ∙ sym (ap (λ t. cond (t && option_map_or (λ way. eqb (next_step way) write_journal) (way_of p workflow) false) (suc p.journal) p.journal) ((same_text_decides workflow workflow).1 refl))

  pub journal_counted : (name : List ℕ) (event : Event) (answer : Answer) → Answers p event answer → IsOf name event → (next p event answer).journal ≡ cond (writes_journal name p event answer) (suc p.journal) p.journal
  journal_counted name (step workflow at) done given of =
      subst (λ n. journal_after p (live_at p workflow) ≡ cond (writes_journal n p (step workflow at) done) (suc p.journal) p.journal) of (counted_step workflow at)
  journal_counted name (step workflow at) (row r) given of = let h : row r ≡ done = given.1 in absurd cc
  journal_counted name (step workflow at) (shown s) given of = refl
  journal_counted name (step workflow at) (advanced events rows) given of = refl
  journal_counted name (step workflow at) (refused refusal) given of = refl
  journal_counted name event answer given of = same_journal p event answer (λ h. h)
