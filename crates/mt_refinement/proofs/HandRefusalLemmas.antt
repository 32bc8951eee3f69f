-- What is made by hand is refused as the definitions do, in the same order.
use Rattle.std.proofs.Common.{◌≡◌, ◌≢◌, ℕ, ◌≤◌, Bool, true, false, not, cond, eqb, List, length, Option, None, Some, is_some, refl, sym, ◌∙◌, arith}
use Rattle.std.proofs.lemmas.Bool.{eqb-true, eqb-false, le-leb, lt-leb}
use Rattle.std.specs.Map.{lookup}
use Rattle.std.specs.Option.{option_map}
use Rattle.std.specs.Prelude.{◌&&◌, nat_le}
use Rattle.mt_names.specs.Names.{same_text}
use Rattle.mt_model.specs.declared.faults.TopologyFault.{TopologyFault}
use Rattle.mt_model.specs.declared.faults.TopologyFault.TheVariants as topology
use Rattle.mt_model.specs.Limits.{most_keyspaces, most_rules, most_tables_in_keyspace}
use Rattle.mt_model.specs.Topology.{KeyspaceState, Keyspaces, is_marked, keyspace_at}
use Rattle.mt_topology.specs.Edits.{add_keyspace_refusal, new_table_refusal}
use Rattle.mt_plain.specs.Events.{Refusal, exists, full}
use Rattle.mt_plain.specs.Refuse.{or_else, refuse_if}
use Rattle.mt_stands.specs.ByHand.{refusal_by_topology}

-- the base's refusal for one of the topology
abbrev pub told : Option TopologyFault → Option Refusal
told fault = option_map refusal_by_topology fault

-- a limit that isn't passed is reached where it is met
at_limit : (n limit : ℕ) → n ≤ limit → nat_le limit n ≡ eqb n limit
at_limit n limit within = by (eqb n limit) refl
  where
    by : (t : Bool) → eqb n limit ≡ t → nat_le limit n ≡ eqb n limit
    by true same = let e : n ≡ limit = eqb-true n limit same in le-leb limit n (omega (arith, e)) ∙ sym same
    by false apart = let e : n ≢ limit = eqb-false n limit apart in lt-leb limit n (omega (arith, e)) ∙ sym apart

pub keyspace_told : (keyspaces : Keyspaces) (name : List ℕ) → length keyspaces ≤ most_keyspaces
    → or_else (refuse_if (is_some (keyspace_at keyspaces name)) exists) (refuse_if (nat_le most_keyspaces (length keyspaces)) full) ≡ told (add_keyspace_refusal keyspaces name)
keyspace_told keyspaces name within = rw (at_limit (length keyspaces) most_keyspaces within) (by (is_some (keyspace_at keyspaces name)) (eqb (length keyspaces) most_keyspaces))
  where
    by : (there at : Bool) → or_else (refuse_if there exists) (refuse_if at full) ≡ told (cond there (Some topology.Exists) (cond at (Some topology.Full) None))
    by true at = refl
    by false true = refl
    by false false = refl

-- where each place has a table
pub table_told : (state : KeyspaceState) (table : List ℕ) → length state.tables ≤ most_tables_in_keyspace → is_some (lookup (same_text table) state.tables) ≡ is_marked state.tables table
    → or_else (refuse_if (is_marked state.tables table) exists) (refuse_if (nat_le most_tables_in_keyspace (length state.tables)) full) ≡ told (new_table_refusal state table)
table_told state table within marked =
    rw (at_limit (length state.tables) most_tables_in_keyspace within, marked)
    (by (is_marked state.tables table) (eqb (length state.tables) most_tables_in_keyspace))
  where
    by : (there at : Bool) → or_else (refuse_if there exists) (refuse_if at full) ≡ told (cond there (Some topology.Exists) (cond (not there && at) (Some topology.Full) None))
    by true at = refl
    by false true = refl
    by false false = refl

-- a rule that is set is refused at the limit where it is new
pub rule_told : (there : Bool) (n : ℕ) → n ≤ most_rules → cond there None (refuse_if (nat_le most_rules n) full) ≡ told (cond (not there && eqb n most_rules) (Some topology.Full) None)
rule_told there n within = rw (at_limit n most_rules within) (by there (eqb n most_rules))
  where
    by : (there at : Bool) → cond there None (refuse_if at full) ≡ told (cond (not there && at) (Some topology.Full) None)
    by true at = refl
    by false true = refl
    by false false = refl
