-- What is asked for at the place where a name leads is asked for through the name.
use Rattle.std.proofs.Common.{◌≡◌, ℕ, nat_lt, Bool, true, false, List, [], length, Option, None, Some, Result, Ok, Err, refl, sym, ap, subst, ◌∙◌}
use Rattle.std.specs.Prelude.{if◌then◌else◌}
use Rattle.mt_model.specs.declared.entries.Scope.{Scope}
use Rattle.mt_model.specs.declared.faults.TopologyFault.{TopologyFault}
use Rattle.mt_model.specs.Topology.{TopologyState}
use Rattle.mt_names.specs.declared.keys.RuleTarget.{RuleTarget}
use Rattle.mt_plain.specs.Events.{Answer, Event, StreamName}
use Rattle.mt_event.specs.Asks.{event_of_ask}
use Rattle.mt_event.specs.declared.ask.Ask.{Ask}
use Rattle.mt_event.specs.declared.ask.Ask.TheVariants as ask
use Rattle.mt_event.specs.declared.ask.Verb.TheVariants as verb
use Rattle.mt_watch.specs.Asking.{Answering}
use Rattle.std.proofs.lemmas.Bool.{true≢false}
use Rattle.mt_workflow.specs.Workflows.{WorkflowState, slot_of, stream_name}
use Rattle.mt_stream.specs.Streams.{StreamValue}
use Rattle.mt_stands.specs.Workflows.{AdvancesAt, AdvancesStream, AdvancesWorkflow, OrShardRefused}
use Rattle.mt_stands.specs.Base.{BaseState, workflow_at}
use Rattle.mt_stands.specs.Ways.{CoreState, CoreSteps}
use Rattle.mt_refinement.proofs.PurgeLemmas.{all-behind, one-behind}
use Rattle.mt_site.specs.Applied.{AppliedAlone}
use Rattle.mt_site.specs.Applies.{AppliesAndPurges, shard_of_row}
use Rattle.mt_site.proofs.PlacedLemmas.{row_leaves_topology}
use Rattle.mt_site.specs.declared.controller.placed.Place.{Place}
use Rattle.mt_run.specs.Asks.{leaves_names}
use Rattle.mt_run.specs.Names.{LeadThere}
use Rattle.mt_run.specs.Rows.{IsThrough}

module _ {A : Type 0} (Stays : Type 0) (P : RuleTarget → A → Type 0) (led : Result RuleTarget TopologyFault) where
  -- what holds at the target holds through a name that leads there
  pub at_target : (target : RuleTarget) (told : A) → led ≡ Ok target → P target told → IsThrough led Stays P (Ok told)
  at_target target told leads holds = subst (λ r. IsThrough r Stays P (Ok told)) (sym leads) holds

  -- a name that leads nowhere changes nothing
  pub nowhere : (fault : TopologyFault) → led ≡ Err fault → Stays → IsThrough led Stays P (Err fault)
  nowhere fault leads stays = subst (λ r. IsThrough r Stays P (Err fault)) (sym leads) (refl, stays)

-- what is asked without watchers steps, whatever watchers there are
pub alone_steps : (old new : CoreState) (event : Event) (answer : Answer) → AppliedAlone old event answer new → (scopes : List Scope) → CoreSteps scopes old event answer new
alone_steps old new event answer applied scopes = (applied scopes).steps

-- an advance leaves the topology
advance_leaves : (old new : BaseState) (workflow : List ℕ) (name : StreamName) (shard at at_most : ℕ) (answer : Answer)
    → AdvancesWorkflow old workflow name shard at at_most answer new → new.topology ≡ old.topology
advance_leaves old new workflow name shard at at_most answer = of_workflow (workflow_at old.workflows workflow)
  where
    topology_of : BaseState → TopologyState
    topology_of core = core.topology

    of_stream : (w : WorkflowState) (stream : Option StreamValue) → AdvancesStream stream old w name shard at at_most answer new → new.topology ≡ old.topology
    of_stream w None is = ap topology_of is.1
    of_stream w (Some stream) (result, after, sink, advances, told, same) = ap topology_of same

    of_shard : (w : WorkflowState) (has_shard : Bool) → OrShardRefused has_shard old answer new (AdvancesStream (slot_of w shard name) old w name shard at at_most answer new)
        → new.topology ≡ old.topology
    of_shard w true is = of_stream w (slot_of w shard name) is
    of_shard w false is = ap topology_of is.1

    of_workflow : (w : Option WorkflowState) → AdvancesAt w old name shard at at_most answer new → new.topology ≡ old.topology
    of_workflow None is = ap topology_of is.1
    of_workflow (Some w) is = of_shard w (nat_lt shard (length w.lanes)) is

-- what leaves where names lead leaves the topology, and so does the purge behind it
pub leaves_topology : (scopes : List Scope) (may_answer : Answering) (old new : CoreState) (asked : Ask) (answer : Answer) → leaves_names asked ≡ true
    → AppliesAndPurges scopes may_answer old (event_of_ask asked) answer new → new.base.topology ≡ old.base.topology
leaves_topology scopes may_answer old new (ask.Write keyspace table op) answer is (made, (writes, ways), (purges, stay)) =
    (one-behind made.base new.base keyspace.now (shard_of_row made.base keyspace.now op.now) answer purges).topology ∙ row_leaves_topology old.base made.base keyspace.now table.now op.now answer writes
leaves_topology scopes may_answer old new (ask.Read keyspace table key type_of) answer is (made, (reads, ways), same) =
    ap (λ (s : CoreState). s.base.topology) same ∙ ap (λ (b : BaseState). b.topology) reads.1
leaves_topology scopes may_answer old new (ask.On workflow (verb.Advance stream shard at max)) answer is (made, (advances, ways), (purges, stay)) =
    (all-behind made.base new.base answer purges).topology ∙ advance_leaves old.base made.base workflow.now (stream_name stream) shard at max answer advances
leaves_topology scopes may_answer old new (ask.On workflow verb.Show) answer is (made, (shows, ways), same) =
    ap (λ (s : CoreState). s.base.topology) same ∙ ap (λ (b : BaseState). b.topology) shows.1
leaves_topology scopes may_answer old new (ask.AddKeyspace keyspace shards) answer is applies = absurd (true≢false (sym is))
leaves_topology scopes may_answer old new (ask.AddTable keyspace table) answer is applies = absurd (true≢false (sym is))
leaves_topology scopes may_answer old new (ask.EditRule key target) answer is applies = absurd (true≢false (sym is))
leaves_topology scopes may_answer old new (ask.Create workflow source target tables) answer is applies = absurd (true≢false (sym is))
leaves_topology scopes may_answer old new (ask.On workflow (verb.BeginSwitch types)) answer is applies = absurd (true≢false (sym is))
leaves_topology scopes may_answer old new (ask.On workflow (verb.BeginReverse types)) answer is applies = absurd (true≢false (sym is))
leaves_topology scopes may_answer old new (ask.On workflow (verb.Step at)) answer is applies = absurd (true≢false (sym is))
leaves_topology scopes may_answer old new (ask.On workflow (verb.Undo at)) answer is applies = absurd (true≢false (sym is))
leaves_topology scopes may_answer old new (ask.On workflow verb.Cancel) answer is applies = absurd (true≢false (sym is))
leaves_topology scopes may_answer old new (ask.On workflow verb.Complete) answer is applies = absurd (true≢false (sym is))

-- so what is kept of names leads where it is kept that it does, if nothing is kept where it may not
pub kept_lead : (scopes : List Scope) (may_answer : Answering) (old new : CoreState) (asked : Ask) (answer : Answer) (kept : List (List ℕ × Place)) → AppliesAndPurges scopes may_answer old (event_of_ask asked) answer new
    → LeadThere old.base.topology kept → (leaves : Bool) → leaves ≡ leaves_names asked → LeadThere new.base.topology (if leaves then kept else [])
kept_lead scopes may_answer old new asked answer kept applies lead true is = subst (λ t. LeadThere t kept) (sym (leaves_topology scopes may_answer old new asked answer (sym is) applies)) lead
kept_lead scopes may_answer old new asked answer kept applies lead false is = record { each = λ name place found. absurd cc }
