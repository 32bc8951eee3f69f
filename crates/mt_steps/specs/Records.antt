-- What is recorded of the keys of a part, and the entries that are made of it.
use Rattle.std.specs.Prelude.{ℕ, Bool, true, false, List, [], ◌∷◌, ◌++◌, map, Option, None, Some, if◌then◌else◌}
use Rattle.mt_names.specs.declared.keys.RuleKey.{RuleKey}
use Rattle.mt_names.specs.declared.keys.RuleTarget.{RuleTarget}
use Rattle.mt_names.specs.declared.types.TabletType.TheVariants.{Primary, Replica, Rdonly}
use Rattle.mt_names.specs.declared.types.TypeSet.{TypeSet}
use Rattle.mt_model.specs.declared.entries.Entry.{Entry}
use Rattle.mt_model.specs.declared.entries.Entry.TheVariants as entry
use Rattle.mt_model.specs.declared.entries.EntryKey.TheVariants as about
use Rattle.mt_model.specs.Part.{table_part_keys}
use Rattle.mt_model.specs.Topology.{TopologyState, is_denied}
use Rattle.mt_plain.specs.Plain.{allow_target, deny_source, in_keyspace}
use Rattle.mt_plain.specs.Serve.{owned_before, serve_rule}
use Rattle.mt_workflow.specs.Workflows.{WorkflowState, live_of, rules_only, wanted}
use Rattle.mt_steps.specs.declared.records.NameMarks.{NameMarks}
use Rattle.mt_steps.specs.declared.records.NameRules.{NameRules}
use Rattle.mt_steps.specs.declared.records.RuleMark.{RuleMark}
use Rattle.mt_steps.specs.declared.records.RuleMark.TheVariants as mark
use Rattle.mt_steps.specs.declared.records.TableRecord.{TableRecord}
use Rattle.mt_steps.specs.Entries.{is_of_step}

-- ---- rules

-- the rule that stood at a key of a table, between two sides, by its mark and what was found there (this profile's own)
abbrev pub rule_recorded : (source target table : List ℕ) → RuleMark → Option RuleTarget → Option RuleTarget
rule_recorded source target table mark.Found found = found
rule_recorded source target table mark.ToSource found = Some (in_keyspace source table)
rule_recorded source target table mark.ToTarget found = Some (in_keyspace target table)

-- the mark of the target, or of the source (this profile's own)
abbrev pub side_mark : (is_target : Bool) → RuleMark
side_mark true = mark.ToTarget
side_mark false = mark.ToSource

-- ---- the entries that records stand for

-- the entries of a name's four keys (this profile's own)
abbrev pub name_entries : (source target : List ℕ) → Option (List ℕ) → (table : List ℕ) → NameMarks → NameRules → List Entry
name_entries source target keyspace table marks found =
    entry.Rule (record { keyspace = keyspace; table = table; tablet_type = None }) (rule_recorded source target table marks.plain found.plain)
    ∷ entry.Rule (record { keyspace = keyspace; table = table; tablet_type = Some Primary }) (rule_recorded source target table marks.primary found.primary)
    ∷ entry.Rule (record { keyspace = keyspace; table = table; tablet_type = Some Replica }) (rule_recorded source target table marks.replica found.replica)
    ∷ entry.Rule (record { keyspace = keyspace; table = table; tablet_type = Some Rdonly }) (rule_recorded source target table marks.rdonly found.rdonly)
    ∷ []

-- the entries of a table's fifteen keys (this profile's own)
abbrev pub table_entries : (source target : List ℕ) → TableRecord → List Entry
table_entries source target r =
    name_entries source target None r.table r.alone r.found_alone
    ++ name_entries source target (Some source) r.table r.at_source r.found_at_source
    ++ name_entries source target (Some target) r.table r.at_target r.found_at_target
    ++ entry.Denied source r.table r.is_denied_at_source ∷ entry.Denied target r.table r.is_denied_at_target ∷ entry.Present target r.table r.is_present ∷ []

-- the entries of several tables, one after the other (this profile's own)
abbrev pub entries_of : (source target : List ℕ) → List TableRecord → List Entry
entries_of source target [] = []
entries_of source target (r ∷ records) = table_entries source target r ++ entries_of source target records

-- ---- denials

-- the step with which the denial at a side changes (How traffic is switched)
abbrev pub denial_step : WorkflowState → (side : List ℕ) → ℕ
denial_step w side = if owned_before (live_of w) side then deny_source else allow_target

-- a denial that is recorded, after a step (this profile's own)
abbrev pub denied_after : WorkflowState → ℕ → TopologyState → (side table : List ℕ) → Bool → Bool
denied_after w n t side table mark = if is_of_step w n (about.Denied side table) then is_denied t.keyspaces side table else mark

-- ---- a part as it is served at rest

-- where the rules at the keys of a name lead with some types switched, with that for all types (How traffic is switched: reads)
abbrev pub name_at_rest : TypeSet → RuleMark → NameMarks
name_at_rest types plain =
    record { plain = plain; primary = mark.Found; replica = side_mark types.replica; rdonly = side_mark types.rdonly }

-- the rules that are found there: one for all types, or none (this profile's own)
abbrev pub found_at_rest : Option RuleTarget → NameRules
found_at_rest plain = record { plain = plain; primary = None; replica = None; rdonly = None }

-- the key of a table's name at the source, for all types (Routing Rules)
abbrev pub key_at_source : WorkflowState → (table : List ℕ) → RuleKey
key_at_source w table = record { keyspace = Some w.source; table = table; tablet_type = None }

-- its rule (How traffic is switched)
abbrev pub plain_at_source : WorkflowState → (table : List ℕ) → Option RuleTarget
plain_at_source w table = serve_rule (rules_only w.kept) (live_of w) w.switched (key_at_source w table) None

-- the entries of a table's fifteen keys, as the part is served at rest (How traffic is switched)
abbrev pub entries_at_rest : WorkflowState → (table : List ℕ) → List Entry
entries_at_rest w table = map (wanted w w.switched) (table_part_keys w.source w.target table)
