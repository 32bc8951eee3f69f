-- What is promised of an event, from what it does.
use Rattle.std.proofs.Common.{◌≡◌, List, ◌++◌, true, Result, Ok, Err, sym}
use Rattle.std.proofs.lemmas.Bool.{true≢false}
use Rattle.std.specs.Prelude.{⊤}
use Rattle.std.specs.Result.{OnErr}
use Rattle.mt_event.specs.declared.reason.Reason.{Reason}
use Rattle.mt_event.specs.declared.refusal.Refusal.{Refusal}
use Rattle.mt_event.specs.Events.{done_from}
use Rattle.mt_event.specs.Reasons.{done_by}
use Rattle.mt_laws.specs.Headline.{Headline}
use Rattle.mt_laws.specs.WayBack.{IsReached}
use Rattle.mt_model.specs.declared.entries.Scope.{Scope}
use Rattle.mt_plain.specs.Answers.{Run, after}
use Rattle.mt_plain.specs.Events.{Answer, Event, done}
use Rattle.mt_plain.specs.Plain.{Plain}
use Rattle.mt_watch.specs.Asking.{Answering}
use Rattle.mt_stands.specs.Purges.{IsPurged}
use Rattle.mt_stands.specs.Ways.{CoreState, CoreSteps}
use Rattle.mt_stream.specs.declared.stream.Advanced.{Advanced}
use Rattle.mt_site.specs.Advance.{advanced_from}
use Rattle.mt_site.specs.Applied.{Applied, is_refused, unasked}
use Rattle.mt_site.specs.Applies.{AppliesAndPurges}
use Rattle.mt_site.specs.GivenUp.{CanBeGivenUp}
use Rattle.mt_site.proofs.RunLemmas.{one_kept}
use Rattle.mt_site.proofs.StoodLemmas.{stood_next}

-- the headline holds of each run and what it goes on with
abbrev pub KeepsHeadline : Type 0
KeepsHeadline = (p : Plain) (earlier more : List Event) (told answered : List Answer) → IsReached p → Run p earlier told → Run (after p earlier told) more answered
    → Headline p (earlier ++ more) (told ++ answered)

-- the headline, and that there is a state, follow from the steps
pub applied_by : (scopes : List Scope) (may_answer : Answering) (old : CoreState) (event : Event) (answer : Answer) (new : CoreState) → KeepsHeadline
    → AppliesAndPurges scopes may_answer old event answer new → CoreSteps scopes old event answer new → (is_refused answer ≡ true → new ≡ old)
    → (CanBeGivenUp old event → answer ≡ done) → (IsPurged old.base → IsPurged new.base) → Applied scopes may_answer old event answer new
applied_by scopes may_answer old event answer new law applies steps unchanged given_up purged = record {
  applies = applies;
  steps = steps;
  unchanged = unchanged;
  given_up = given_up;
  headline = one_kept scopes old new event answer steps law;
  stood = stood_next scopes old new event answer steps;
  purged = purged;
}

-- the same with other watchers, of an event that asks none: what it does is the same
pub with_watchers : (scopes : List Scope) (may_answer : Answering) (old : CoreState) (event : Event) (answer : Answer) (new : CoreState) → AppliesAndPurges scopes may_answer old event answer new
    → Applied scopes unasked old event answer new → Applied scopes may_answer old event answer new
with_watchers scopes may_answer old event answer new applies applied = record {
  applies = applies;
  steps = applied.steps;
  unchanged = applied.unchanged;
  given_up = applied.given_up;
  headline = applied.headline;
  stood = applied.stood;
  purged = applied.purged;
}

-- ---- what a refusal leaves

pub left_done : (told : Result ⊤ Reason) (P : Type 0) → OnErr told P → is_refused (done_by told) ≡ true → P
left_done (Ok is-done) P leaves is = absurd (true≢false (sym is))
left_done (Err reason) P leaves is = leaves

pub left_from : (told : Result ⊤ Refusal) (P : Type 0) → OnErr told P → is_refused (done_from told) ≡ true → P
left_from (Ok is-done) P leaves is = absurd (true≢false (sym is))
left_from (Err refusal) P leaves is = leaves

pub left_advanced : (told : Result Advanced Reason) (P : Type 0) → OnErr told P → is_refused (advanced_from told) ≡ true → P
left_advanced (Ok counts) P leaves is = absurd (true≢false (sym is))
left_advanced (Err reason) P leaves is = leaves
