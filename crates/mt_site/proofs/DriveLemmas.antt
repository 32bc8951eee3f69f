-- A drive is a run, and carries on whatever run was before it.
use Rattle.std.proofs.Common.{◌≡◌, ℕ, zero, suc, Bool, List, [], ◌∷◌, ◌++◌, Result, refl, sym, subst}
use Rattle.mt_event.specs.declared.refusal.Refusal as code
use Rattle.mt_laws.specs.Headline.{Headline}
use Rattle.mt_laws.specs.Scripts.{HasEnded, IsDrive}
use Rattle.mt_laws.specs.WayBack.{IsReached}
use Rattle.mt_model.specs.declared.entries.Scope.{Scope}
use Rattle.mt_names.specs.declared.types.TypeSet.{TypeSet}
use Rattle.mt_plain.specs.Answers.{Answers, Run, after}
use Rattle.mt_plain.specs.Drive.{Driven, Drives, Driving, EndRule, GoesOn, Heard, begins, ends, event_of, goes_on, heard}
use Rattle.mt_plain.specs.Events.{Answer, Event, Refusal}
use Rattle.mt_plain.specs.Next.{next}
use Rattle.mt_plain.specs.Plain.{Plain}
use Rattle.mt_stands.specs.Ways.{CoreStands, CoreState}
use Rattle.mt_event.specs.declared.driven.Driven as code_driven
use Rattle.mt_event.specs.Drives.{ended_from}
use Rattle.mt_site.specs.Drives.{DriveKeepsTheHeadline, EndsFrom}

-- the events of a drive that ends so, in a state of which that holds
record HasDriven (Left : Plain → Type 0) (ended : Result Driven Refusal) (driving : Driving) (p : Plain) : Type 0 where
  pub events : List Event
  pub answers : List Answer
  pub run : Run p events answers
  pub is : IsDrive p driving events answers ended
  pub left : Left (after p events answers)

module _ (Left : Plain → Type 0) (ended : Result Driven Refusal) where
  abbrev Ends : EndRule
  Ends = λ e q. (e ≡ ended) × Left q

  module _ (p : Plain) (driving : Driving) (answer : Answer) (may : Answers p (event_of p driving) answer) where
    abbrev q : Plain
    q = next p (event_of p driving) answer

    -- one event more before those of the rest
    goes : (rest : Driving) → goes_on rest ≡ heard q driving answer → HasDriven Left ended rest q → HasDriven Left ended driving p
    goes rest is drove = record {
      events = event_of p driving ∷ drove.events;
      answers = answer ∷ drove.answers;
      run = (may, drove.run);
      is = (refl, may, subst (GoesOn (λ further r. IsDrive r further drove.events drove.answers ended) (HasEnded drove.events drove.answers ended) q) is drove.is);
      left = drove.left;
    }

    -- the last event
    stops : (e : Result Driven Refusal) → ends e ≡ heard q driving answer → (e ≡ ended) × Left q → HasDriven Left ended driving p
    stops e is (so, left) = record {
      events = event_of p driving ∷ [];
      answers = answer ∷ [];
      run = (may, tt);
      is = (refl, may, subst (GoesOn (λ further r. IsDrive r further [] [] ended) (HasEnded [] [] ended) q) is (refl, refl, so));
      left = left;
    }

  has_driven : (turns : ℕ) (driving : Driving) (p : Plain) → Drives Answers turns Ends driving p → HasDriven Left ended driving p
  has_driven zero driving p drove = absurd drove
  has_driven (suc turns) driving p drove = by (has_driven turns) (heard (next p (event_of p driving) drove.0) driving drove.0) refl drove.2
    where
      by : ((rest : Driving) (r : Plain) → Drives Answers turns Ends rest r → HasDriven Left ended rest r) → (h : Heard)
          → h ≡ heard (next p (event_of p driving) drove.0) driving drove.0 → GoesOn (Drives Answers turns Ends) Ends (next p (event_of p driving) drove.0) h
          → HasDriven Left ended driving p
      by again (goes_on rest) is more = goes p driving drove.0 drove.1 rest is (again rest (next p (event_of p driving) drove.0) more)
      by again (ends e) is so = stops p driving drove.0 drove.1 e is so

-- a run goes on with another, and ends where that ends
run_joined : (events : List Event) (answers : List Answer) (p : Plain) (more : List Event) (told : List Answer) → Run p events answers
    → Run (after p events answers) more told
    → Run p (events ++ more) (answers ++ told) × (after p (events ++ more) (answers ++ told) ≡ after (after p events answers) more told)
run_joined [] [] p more told run rest = (rest, refl)
run_joined [] (a ∷ answers) p more told run rest = absurd run
run_joined (e ∷ events) [] p more told run rest = absurd run
run_joined (e ∷ events) (a ∷ answers) p more told run rest =
    let r = run_joined events answers (next p e a) more told run.1 rest in
    ((run.0, r.0), r.1)

-- a drive keeps the headline
pub drive_keeps : (scopes : List Scope) (old new : CoreState) (workflow : List ℕ) (types : TypeSet) (back : Bool) (result : Result code_driven.Driven code.Refusal)
    (turns : ℕ)
    → ((p : Plain) → CoreStands p scopes old → EndsFrom scopes turns (begins workflow types back) p result new)
    → ((p : Plain) (earlier more : List Event) (told answered : List Answer) → IsReached p → Run p earlier told → Run (after p earlier told) more answered
    → Headline p (earlier ++ more) (told ++ answered))
    → DriveKeepsTheHeadline scopes old workflow types back result new
drive_keeps scopes old new workflow types back result turns drives law = λ p earlier told had.
    let start = begins workflow types back in
    let drove = has_driven (λ q. CoreStands q scopes new) (ended_from result) turns start (after p earlier told) (drives (after p earlier told) had.stands) in
    let joined = run_joined earlier told p drove.events drove.answers had.run drove.run in (
      drove.events,
      drove.answers,
      drove.is,
      record {
        reached = had.reached;
        run = joined.0;
        stands = subst (λ q. CoreStands q scopes new) (sym joined.1) drove.left;
      },
      law p earlier drove.events told drove.answers had.reached had.run drove.run,
    )
