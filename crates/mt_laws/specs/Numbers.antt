-- The numbers of tables, where no workflow is live (this profile's own).
use Rattle.std.specs.Prelude.{◌≡◌, ℕ, ◌<◌, ◌&&◌, ◌==◌, true, List, [], ◌∷◌, if◌then◌else◌, Option, Some, ⊤}
use Rattle.std.specs.List.{AllByRecursion}
use Rattle.std.specs.Map.{lookup}
use Rattle.mt_names.specs.declared.keys.RuleTarget.{RuleTarget}
use Rattle.mt_names.specs.Names.{same_text}
use Rattle.mt_names.specs.Same.{same_target}
use Rattle.mt_model.specs.declared.rows.Op.{Op}
use Rattle.mt_model.specs.Rows.{op_key}
use Rattle.mt_model.specs.Topology.{is_present}
use Rattle.mt_plain.specs.Events.{Event, write, read, add_keyspace, add_table, edit_rule, Answer, done}
use Rattle.mt_plain.specs.Plain.{Plain, Write, in_keyspace}

abbrev pub Numbers : Type 0
Numbers = List (RuleTarget × ℕ)

abbrev pub number_at : Numbers → RuleTarget → Option ℕ
number_at numbers target = lookup (same_target target) numbers

-- the writes are of tables with a number below a bound
abbrev pub Below : ℕ → List Write → Type 0
Below bound writes = AllByRecursion (λ w. w.table < bound) writes

-- a table has a number, which is no other table's; each number given, and that of each write, is below the next one
pub record HasNumbers (p : Plain) : Type 0 where
  pub numbered : (keyspace table : List ℕ) → is_present p.topology.keyspaces keyspace table ≡ true → (n : ℕ) × (number_at p.numbers (in_keyspace keyspace table) ≡ Some n)
  pub distinct : (a b : RuleTarget) (n : ℕ) → number_at p.numbers a ≡ Some n → number_at p.numbers b ≡ Some n → a ≡ b
  pub below : (a : RuleTarget) (n : ℕ) → number_at p.numbers a ≡ Some n → n < p.made
  pub written : Below p.made p.writes

-- a state without its live workflows
abbrev pub calm : Plain → Plain
calm p = record p { lives = [] }

-- the events that concern no workflow
abbrev pub IsByHand : Event → Type 0
IsByHand (write keyspace table op) = ⊤
IsByHand (read keyspace table key tablet_type) = ⊤
IsByHand (add_keyspace keyspace cuts) = ⊤
IsByHand (add_table keyspace table) = ⊤
IsByHand (edit_rule key target) = ⊤
IsByHand other = ⊥

-- the operation of an event, if it was done to this row
abbrev pub acknowledged_at : (keyspace table : List ℕ) → ℕ → Event → Answer → List Op
acknowledged_at keyspace table key (write k t op) done =
    if same_text k keyspace && same_text t table && (op_key op == key) then op ∷ [] else []
acknowledged_at keyspace table key event answer = []
