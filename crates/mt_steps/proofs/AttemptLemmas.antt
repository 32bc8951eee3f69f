-- What was refused of a step changed nothing.
use Rattle.std.proofs.Common.{◌≡◌, ℕ, Bool, true, false, not, List, Option, Err, set, ap, ◌∙◌}
use Rattle.std.proofs.lemmas.List.{set-get_or}
use Rattle.mt_model.specs.declared.entries.Scope.{Scope}
use Rattle.mt_model.specs.Topology.{Marks, TopologyState}
use Rattle.mt_plain.specs.Events.{Way}
use Rattle.mt_primary.specs.Primary.{PrimaryState, empty_primary}
use Rattle.mt_watch.specs.Asking.{Answering}
use Rattle.mt_workflow.specs.Workflows.{WorkflowState}
use Rattle.mt_journal.specs.declared.entry.JournalEntry.{JournalEntry}
use Rattle.mt_steps.specs.declared.fault.StepFault.{StepFault}
use Rattle.mt_steps.specs.declared.fault.StepFault.TheVariants as fault
use Rattle.mt_steps.specs.declared.step.Step.{Step}
use Rattle.mt_steps.specs.declared.step.Step.TheVariants.{SwitchReads, DenySource, RefreshSource, CatchUp, StopFeeding, CreateBack, Journal, AllowTarget, RefreshTarget, SwitchWriteRules, StartBack, FreezeOld}
use Rattle.mt_steps.specs.Refreshes.{Refreshes, RefreshesSide, Sites}
use Rattle.mt_steps.specs.Shards.{next_shard}
use Rattle.mt_steps.specs.Steps.{Attempts, Journals, journal_entry}

same_sites : (old new : Sites) → new.source ≡ old.source → new.targets ≡ old.targets → new.journal ≡ old.journal → new.listed ≡ old.listed → new ≡ old
same_sites old new source targets journal listed =
    ap (λ (s : PrimaryState). record new { source = s }) source ∙ ap (λ (s : List PrimaryState). record new { source = old.source; targets = s }) targets
    ∙ ap (λ (j : List JournalEntry). record { source = old.source; targets = old.targets; journal = j; listed = new.listed }) journal
    ∙ ap (λ (l : Option Marks). record { source = old.source; targets = old.targets; journal = old.journal; listed = l }) listed

journal_refused : (e : JournalEntry) (old new : List JournalEntry) (f : StepFault) → Journals e old (Err f) new → new ≡ old
journal_refused e old new fault.Memory is = is.1
journal_refused e old new fault.NotLevel is = absurd is
journal_refused e old new (fault.WatcherRefused i) is = absurd is
journal_refused e old new fault.NoWatcher is = absurd is
journal_refused e old new fault.Full is = is.1

module _ (scopes : List Scope) (may_answer : Answering) (t : TopologyState) where
  refresh_refused : (side : List ℕ) (tables : List (List ℕ)) (p q : PrimaryState) (l m : Option Marks) (f : StepFault) → Refreshes scopes may_answer t side tables p l (Err f) q m → (q ≡ p) × (m ≡ l)
  refresh_refused side tables p q l m fault.Memory is = (is.1, is.2)
  refresh_refused side tables p q l m fault.NotLevel is = absurd is
  refresh_refused side tables p q l m (fault.WatcherRefused i) is = (is.1, is.2)
  refresh_refused side tables p q l m fault.NoWatcher is = (is.1, is.2)
  refresh_refused side tables p q l m fault.Full is = absurd is

  side_refused : (w : WorkflowState) (b : Bool) (shard : ℕ) (old new : Sites) (f : StepFault) → RefreshesSide scopes may_answer t w b shard old (Err f) new → new ≡ old
  side_refused w true shard old new f is =
      let r = refresh_refused _ _ _ _ _ _ f is.0 in
      same_sites old new is.2 (is.1 ∙ ap (set old.targets shard) r.0 ∙ set-get_or old.targets shard empty_primary) is.3 r.1
  side_refused w false shard old new f is = let r = refresh_refused _ _ _ _ _ _ f is.0 in same_sites old new r.0 is.1 is.2 r.1

  pub refused : (id : ℕ) (w : WorkflowState) (way : Way) (step : Step) (old new : Sites) (f : StepFault) → Attempts scopes may_answer id t w way step old (Err f) new → new ≡ old
  refused id w way SwitchReads old new f is = is.1
  refused id w way DenySource old new f is = is.1
  refused id w way RefreshSource old new f is = side_refused w way.before.primary (next_shard way) old new f is
  refused id w way CatchUp old new f is = is.1
  refused id w way StopFeeding old new f is = is.1
  refused id w way CreateBack old new f is = is.1
  refused id w way Journal old new f is = same_sites old new is.1 is.2 (journal_refused (journal_entry id w way old.source old.targets) old.journal new.journal f is.0) is.3
  refused id w way AllowTarget old new f is = is.1
  refused id w way RefreshTarget old new f is = side_refused w (not way.before.primary) (next_shard way) old new f is
  refused id w way SwitchWriteRules old new f is = is.1
  refused id w way StartBack old new f is = is.1
  refused id w way FreezeOld old new f is = is.1
