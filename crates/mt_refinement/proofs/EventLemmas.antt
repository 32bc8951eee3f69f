-- What is made by hand, a write, a read and Show leave the workflows as they are.
use Rattle.std.proofs.Common.{◌≡◌, ℕ, Bool, true, List, Option, None, Some, refl, ap, ◌∙◌}
use Rattle.std.specs.Prelude.{option_map}
use Rattle.mt_names.specs.Shards.{Cuts}
use Rattle.mt_names.specs.declared.keys.RuleKey.{RuleKey}
use Rattle.mt_names.specs.declared.keys.RuleTarget.{RuleTarget}
use Rattle.mt_model.specs.declared.entries.EntryKey.TheVariants as about
use Rattle.mt_model.specs.declared.rows.Op.{Op}
use Rattle.mt_model.specs.Topology.{with_keyspace, with_rule, with_table}
use Rattle.mt_topology.specs.Edits.{add_keyspace_refusal, add_table_refusal, edit_rule_grows, edit_rule_refusal}
use Rattle.mt_primary.specs.Primaries as primaries
use Rattle.mt_primary.specs.Primaries.{ShardsState, shards_at, with_all}
use Rattle.mt_primary.specs.Writes.{with_new_table}
use Rattle.mt_plain.specs.Events.{Answer, done, row, advanced, shown, refused, Refusal, memory, rule_owned}
use Rattle.mt_plain.specs.Refuse.{or_else, refuse_if}
use Rattle.mt_stands.specs.ByHand.{AddsKeyspace, AddsTable, EditsRule, WritesAt, WritesRow, is_owned, refusal_by_topology}
use Rattle.mt_stands.specs.Base.{BaseState, Does}

-- what is made has the same workflows, and what is refused leaves all as it was
made_same : (old made new : BaseState) (refusal : Option Refusal) (grows : Bool) (answer : Answer) → made.workflows ≡ old.workflows → Does old refusal grows made answer new → new.workflows ≡ old.workflows
made_same old made new refusal grows done same is = ap (λ (c : BaseState). c.workflows) is.1 ∙ same
made_same old made new refusal grows (refused memory) same is = ap (λ (c : BaseState). c.workflows) is.2
made_same old made new refusal grows (refused r) same is = ap (λ (c : BaseState). c.workflows) is.1
made_same old made new refusal grows (row r) same is = absurd is
made_same old made new refusal grows (advanced events rows) same is = absurd is
made_same old made new refusal grows (shown s) same is = absurd is

pub keyspace_same : (old new : BaseState) (name : List ℕ) (cuts : Cuts) (answer : Answer) → AddsKeyspace old name cuts answer new → new.workflows ≡ old.workflows
keyspace_same old new name cuts answer =
    made_same old (record old { topology = with_keyspace old.topology name cuts; primaries = primaries.with_keyspace old.primaries name cuts }) new
    (option_map refusal_by_topology (add_keyspace_refusal old.topology.keyspaces name)) true answer refl

pub table_same : (old new : BaseState) (keyspace table : List ℕ) (answer : Answer) → AddsTable old keyspace table answer new → new.workflows ≡ old.workflows
table_same old new keyspace table answer =
    made_same old (record old { topology = with_table old.topology keyspace table; primaries = with_all old.primaries keyspace (λ primary. with_new_table primary table) }) new
    (option_map refusal_by_topology (add_table_refusal old.topology.keyspaces keyspace table)) true answer refl

pub rule_same : (old new : BaseState) (key : RuleKey) (target : Option RuleTarget) (answer : Answer) → EditsRule old key target answer new → new.workflows ≡ old.workflows
rule_same old new key target answer =
    made_same old (record old { topology = record old.topology { rules = with_rule old.topology.rules key target } }) new
    (or_else (refuse_if (is_owned old.workflows (about.Rule key)) rule_owned) (option_map refusal_by_topology (edit_rule_refusal old.topology.rules key target)))
    (edit_rule_grows old.topology.rules key target) answer refl

pub write_same : (old new : BaseState) (keyspace table : List ℕ) (op : Op) (answer : Answer) → WritesRow old keyspace table op answer new → new.workflows ≡ old.workflows
write_same old new keyspace table op answer = by (shards_at old.primaries keyspace)
  where
    by : (o : Option ShardsState) → WritesAt o old keyspace table op answer new → new.workflows ≡ old.workflows
    by None is = ap (λ (c : BaseState). c.workflows) is.1
    by (Some shards) is = ap (λ (c : BaseState). c.workflows) is.4
