-- What is promised of each event that the controller applies (this profile's own).
use Rattle.std.specs.Prelude.{◌≡◌, Bool, true, false, List, [], ◌∷◌}
use Rattle.mt_model.specs.declared.entries.Scope.{Scope}
use Rattle.mt_plain.specs.Events.{Answer, Event, done, refused}
use Rattle.mt_watch.specs.Asking.{Answering}
use Rattle.mt_stands.specs.Purges.{IsPurged}
use Rattle.mt_stands.specs.Ways.{CoreState, CoreSteps}
use Rattle.mt_site.specs.Applies.{Applies, AppliesAndPurges}
use Rattle.mt_site.specs.GivenUp.{CanBeGivenUp}
use Rattle.mt_site.specs.Headline.{KeepsTheHeadline}
use Rattle.mt_site.specs.Stood.{IsCoreWith}

-- an answer is a refusal
abbrev pub is_refused : Answer → Bool
is_refused (refused why) = true
is_refused other = false

-- an event was applied, with watchers of these scopes that may answer so, and answered so
pub record Applied (scopes : List Scope) (may_answer : Answering) (old : CoreState) (event : Event) (answer : Answer) (new : CoreState) : Type 0 where
  -- of the core as a value: each layer did what its definitions say, and logs were purged
  pub applies : AppliesAndPurges scopes may_answer old event answer new
  -- of each plain state that it stood for: the answer is one that the event may get there, and it stands for the state after it
  pub steps : CoreSteps scopes old event answer new
  -- of a refusal: nothing has changed
  pub unchanged : is_refused answer ≡ true → new ≡ old
  -- what is always done: before the journal an undo with the right number, and a Cancel where nothing is switched and no way is open
  pub given_up : CanBeGivenUp old event → answer ≡ done
  -- of the whole run: the headline, word for word
  pub headline : KeepsTheHeadline scopes old (event ∷ []) (answer ∷ []) new
  -- there goes on to be a state that it stands for
  pub stood : IsCoreWith scopes old → IsCoreWith scopes new
  -- no log keeps a whole segment that nobody needs
  pub purged : IsPurged old.base → IsPurged new.base

-- watchers that aren't asked answer nothing
abbrev pub unasked : Answering
unasked number change answer = ⊥

-- an event that asks nobody was applied, whatever scopes there are
abbrev pub AppliedAlone : CoreState → Event → Answer → CoreState → Type 0
AppliedAlone old event answer new = (scopes : List Scope) → Applied scopes unasked old event answer new

-- before the logs are purged
pub record Taken (scopes : List Scope) (may_answer : Answering) (old : CoreState) (event : Event) (answer : Answer) (new : CoreState) : Type 0 where
  pub applies : Applies scopes may_answer old event answer new
  pub steps : CoreSteps scopes old event answer new
  pub unchanged : is_refused answer ≡ true → new ≡ old
