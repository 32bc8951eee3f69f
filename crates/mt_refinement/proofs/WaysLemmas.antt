-- What is kept of the ways goes on standing behind an event that is of no way.
use Rattle.std.proofs.Common.{◌≡◌, ℕ, false, List, Option, None, Some, is_some, sym, ap, ◌∙◌}
use Rattle.std.proofs.lemmas.Bool.{true≢false}
use Rattle.std.specs.Option.{option_map_or}
use Rattle.mt_model.specs.declared.entries.Scope.{Scope}
use Rattle.mt_journal.specs.declared.entry.JournalEntry.{JournalEntry}
use Rattle.mt_steps.specs.declared.log.OpenWay.{OpenWay}
use Rattle.mt_workflow.specs.Workflows.{WorkflowState}
use Rattle.mt_plain.specs.Answers.{Answers}
use Rattle.mt_plain.specs.Events.{Answer, Event, Way}
use Rattle.mt_plain.specs.Next.{next}
use Rattle.mt_plain.specs.Plain.{Live, Plain, live_at}
use Rattle.mt_laws.specs.Changes.{BeginsWay, IsOf, IsStep}
use Rattle.mt_stands.specs.Base.{BaseState, Workflows, workflow_at}
use Rattle.mt_stands.specs.Stands.{StandsWith, Steps}
use Rattle.mt_stands.specs.Ways.{IsOpenOn, CoreState, CoreSteps, WaysStand, WaysState, is_under_way}

-- ---- whether a way is open

pub is_under_way-found : (workflows : Workflows) (name : List ℕ) (w : WorkflowState) (o : Option Way) → workflow_at workflows name ≡ Some w → w.way ≡ o → is_under_way workflows name ≡ is_some o
is_under_way-found workflows name w o found on = ap (λ x. option_map_or (λ (v : WorkflowState). is_some v.way) x false) found ∙ ap is_some on

pub is_under_way-none : (workflows : Workflows) (name : List ℕ) → workflow_at workflows name ≡ None → is_under_way workflows name ≡ false
is_under_way-none workflows name none = ap (λ x. option_map_or (λ (v : WorkflowState). is_some v.way) x false) none

-- ---- a name

-- the way of a workflow was open before on the workflow of that name, and what is kept of it is kept for the workflow as it is now
pub record WasOpen (p : Plain) (old : Workflows) (name : List ℕ) (live : Live) (v : WorkflowState) (way : Way) : Type 0 where
  pub before : Live
  pub w : WorkflowState
  pub is_live : live_at p name ≡ Some before
  pub found : workflow_at old name ≡ Some w
  pub on : w.way ≡ Some way
  pub stays : (journal : List JournalEntry) (o : OpenWay) → IsOpenOn journal before w way o → IsOpenOn journal live v way o

-- of a name, a way is open on its workflow just where one was, and it is that one
pub record KeepsWay (p q : Plain) (old new : Workflows) (name : List ℕ) : Type 0 where
  pub there : is_under_way new name ≡ is_under_way old name
  pub each : (live : Live) (v : WorkflowState) (way : Way) → live_at q name ≡ Some live → workflow_at new name ≡ Some v → v.way ≡ Some way → WasOpen p old name live v way

-- a workflow that is as it was
pub same_keeps : (p q : Plain) (old new : Workflows) (name : List ℕ) → live_at q name ≡ live_at p name → workflow_at new name ≡ workflow_at old name → KeepsWay p q old new name
same_keeps p q old new name same_live same_workflow = record {
  there = ap (λ x. option_map_or (λ (v : WorkflowState). is_some v.way) x false) same_workflow;
  each = λ live v way is_live found on. record {
    before = live;
    w = v;
    is_live = sym same_live ∙ is_live;
    found = sym same_workflow ∙ found;
    on = on;
    stays = λ journal o is. is;
  };
}

-- a workflow on which no way is open, before and behind the event
pub none_keeps : (p q : Plain) (old new : Workflows) (name : List ℕ) → is_under_way old name ≡ false → is_under_way new name ≡ false → KeepsWay p q old new name
none_keeps p q old new name none_before none_behind = record {
  there = none_behind ∙ sym none_before;
  each = λ live v way is_live found on. absurd (true≢false (sym (is_under_way-found new name v (Some way) found on) ∙ none_behind));
}

-- ---- all of them

pub ways_stay : (p q : Plain) (old new : BaseState) (ways : WaysState) → q.ways ≡ p.ways → q.journal ≡ p.journal
    → ((name : List ℕ) → KeepsWay p q old.workflows new.workflows name) → WaysStand p old ways → WaysStand q new ways
ways_stay p q old new ways same_begun same_journal keeps stand = record {
  begun = stand.begun ∙ sym same_begun;
  journal = stand.journal ∙ sym same_journal;
  distinct = stand.distinct;
  there = λ name. stand.there name ∙ sym (keeps name).there;
  each = λ name live v way o is_live found on opened.
      let was = (keeps name).each live v way is_live found on in
      was.stays ways.journal o (stand.each name was.before was.w way o was.is_live was.found was.on opened);
  written = stand.written;
  numbers = stand.numbers;
  apart = stand.apart;
}

-- ---- an event

-- what the laws say of each event
pub record Laws : Type 0 where
  pub ways : (p : Plain) (event : Event) (answer : Answer) → ¬ (BeginsWay event) → (next p event answer).ways ≡ p.ways
  pub journal : (p : Plain) (event : Event) (answer : Answer) → ¬ (IsStep event) → (next p event answer).journal ≡ p.journal
  pub elsewhere : (p : Plain) (event : Event) (answer : Answer) (name : List ℕ) → ¬ (IsOf name event) → live_at (next p event answer) name ≡ live_at p name

module _ (laws : Laws) (event : Event) (begins_none : ¬ (BeginsWay event)) (is_no_step : ¬ (IsStep event)) (scopes : List Scope) (old : CoreState) (new : BaseState) (answer : Answer)
    (steps : Steps scopes old.base event answer new) where
  -- an event that steps the core and keeps each way
  pub site_steps : ((p : Plain) → StandsWith p scopes old.base → Answers p event answer → StandsWith (next p event answer) scopes new → (name : List ℕ) → KeepsWay p (next p event answer) old.base.workflows new.workflows name)
      → CoreSteps scopes old event answer (record old { base = new })
  site_steps keeps p stands =
      let (given, behind) = steps p stands.base in (
        given,
        record {
          base = behind;
          ways = ways_stay p (next p event answer) old.base new old.ways (laws.ways p event answer begins_none) (laws.journal p event answer is_no_step)
              (keeps p stands.base given behind) stands.ways;
        },
      )

  -- an event that is of no workflow
  pub steps_beside : ((name : List ℕ) → ¬ (IsOf name event)) → new.workflows ≡ old.base.workflows → CoreSteps scopes old event answer (record old { base = new })
  steps_beside of_none same =
      site_steps (λ p stands given behind name. same_keeps p (next p event answer) old.base.workflows new.workflows name
      (laws.elsewhere p event answer name (of_none name)) (ap (λ (workflows : Workflows). workflow_at workflows name) same))
