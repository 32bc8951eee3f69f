-- What a workflow keeps is what stood.
use Rattle.std.proofs.Common.{All, ◌≡◌, ℕ, zero, suc, ◌<◌, Bool, true, false, not, ◌||◌, ◌==◌, List, [], ◌∷◌, Contains, length, map, slice_index_or, Option, None, Some, refl, ap, sym, subst, arith, ◌∙◌}
use Rattle.std.proofs.lemmas.Bool.{true≢false}
use Rattle.std.proofs.lemmas.List.Elements.{All-contains, All-filter}
use Rattle.std.specs.Option.{option_or}
use Rattle.mt_names.specs.declared.keys.RuleKey.{RuleKey}
use Rattle.mt_names.specs.Names.{same_text}
use Rattle.mt_names.specs.Same.{same_key}
use Rattle.mt_names.proofs.SameLemmas.{same_key_decides, same_text_decides}
use Rattle.mt_model.specs.declared.entries.Entry.TheVariants as entry
use Rattle.mt_model.specs.declared.entries.EntryKey.TheVariants as about
use Rattle.mt_model.specs.Part.{part_keys}
use Rattle.mt_model.specs.Topology.{Rules, TopologyState, is_denied, is_present, rule_at}
use Rattle.mt_plain.specs.Plain.{among, has_part, is_side, moves}
use Rattle.mt_workflow.specs.declared.fault.WorkflowFault.{WorkflowFault}
use Rattle.mt_workflow.specs.declared.fault.WorkflowFault.TheVariants.{SameKeyspace, ShardedSource, NoTables, TargetHasTable, DeniedByHand, NoTable}
use Rattle.mt_workflow.specs.Creates.{conflict_of, create_refusal, is_denied_by_hand, is_sharded, refuse_if, table_refusal, tables_refusal}
use Rattle.mt_workflow.specs.Workflows.{IsKept, WorkflowState, keys_of_rules, kept_of, live_of}
use Rattle.mt_workflow.proofs.KeptLemmas.{is_rule, rules-of_part}
use Rattle.mt_names.proofs.BoolLemmas.{both}
use Rattle.mt_workflow.proofs.MemberLemmas.{all_counted, in_map, rule_in_part}

-- ---- the rules

abbrev noted : Rules → List RuleKey → Rules
noted rules keys = map (λ key. (key, rule_at rules key)) keys

pub kept-there : (rules : Rules) (keys : List RuleKey) (key : RuleKey) (k : ℕ) → k < length keys → slice_index_or keys k key ≡ key → rule_at (noted rules keys) key ≡ rule_at rules key
kept-there rules [] key k below is = absurd (omega (arith, below))
kept-there rules (j ∷ js) key zero below is = let same : same_key key j ≡ true = (same_key_decides key j).1 (sym is) in rw same (ap (rule_at rules) is)
kept-there rules (j ∷ js) key (suc k) below is = by (kept-there rules js key k (omega (arith, below)) is) (same_key key j) refl
  where
    by : rule_at (noted rules js) key ≡ rule_at rules key → (t : Bool) → same_key key j ≡ t → rule_at (noted rules (j ∷ js)) key ≡ rule_at rules key
    by again true t = rw t (ap (rule_at rules) (sym ((same_key_decides key j).0 t)))
    by again false t = rw t again

kept-absent : (rules : Rules) (keys : List RuleKey) (key : RuleKey) → (Contains keys key → ⊥) → rule_at (noted rules keys) key ≡ None
kept-absent rules [] key absent = refl
kept-absent rules (j ∷ js) key absent = by (kept-absent rules js key (λ there. absent (suc there.0, omega (arith, there.1), there.2))) (same_key key j) refl
  where
    by : rule_at (noted rules js) key ≡ None → (t : Bool) → same_key key j ≡ t → rule_at (noted rules (j ∷ js)) key ≡ None
    by again true t = absurd (absent (0, omega arith, sym ((same_key_decides key j).0 t)))
    by again false t = rw t again

pub stood : (w : WorkflowState) (t : TopologyState) → w.kept ≡ kept_of t.rules w.source w.target w.tables → (key : RuleKey) → has_part (live_of w) (about.Rule key) ≡ true → rule_at w.kept key ≡ rule_at t.rules key
stood w t kept key part =
    let there = rule_in_part (live_of w) key part in
    ap (λ rules. rule_at rules key) kept ∙ kept-there t.rules (keys_of_rules w.source w.target w.tables) key there.0 there.1 there.2

pub no_other : (w : WorkflowState) (t : TopologyState) → w.kept ≡ kept_of t.rules w.source w.target w.tables → (key : RuleKey) → has_part (live_of w) (about.Rule key) ≡ false → rule_at w.kept key ≡ None
no_other w t kept key part =
    ap (λ rules. rule_at rules key) kept
    ∙ kept-absent t.rules (keys_of_rules w.source w.target w.tables) key (λ there.
    true≢false (sym (All-contains (λ k. has_part (live_of w) k ≡ true) (map about.Rule (keys_of_rules w.source w.target w.tables)) (about.Rule key)
    (subst (All (λ k. has_part (live_of w) k ≡ true)) (rules-of_part w.source w.target w.tables) (All-filter is_rule (λ k. has_part (live_of w) k ≡ true) (part_keys w.source w.target w.tables) (all_counted (live_of w))))
    (in_map (keys_of_rules w.source w.target w.tables) key there)) ∙ part))

-- ---- tables that nothing refuses

-- the first of two that refuses is none
first_none : (one two : Option WorkflowFault) → option_or one two ≡ None → one ≡ None
first_none None two e = refl
first_none (Some fault) two e = e

then_none : (one two : Option WorkflowFault) → option_or one two ≡ None → two ≡ None
then_none None two e = e
then_none (Some fault) two e = absurd cc

unless : (test : Bool) (fault : WorkflowFault) → refuse_if test fault ≡ None → test ≡ false
unless true fault e = absurd cc
unless false fault e = refl

none_refused : (t : TopologyState) (source target : List ℕ) (tables : List (List ℕ)) (table : List ℕ) → tables_refusal t source target tables ≡ None → among tables table ≡ true → table_refusal t source target table ≡ None
none_refused t source target [] table none named = absurd cc
none_refused t source target (first ∷ tables) table none named =
    by (none_refused t source target tables table (then_none (table_refusal t source target first) (tables_refusal t source target tables) none)) (same_text first table) refl
  where
    by : (among tables table ≡ true → table_refusal t source target table ≡ None) → (b : Bool) → same_text first table ≡ b → table_refusal t source target table ≡ None
    by again true b = ap (table_refusal t source target) (sym ((same_text_decides first table).0 b)) ∙ first_none (table_refusal t source target first) (tables_refusal t source target tables) none
    by again false b = again (rw b at named)

pub all_stood : (w : WorkflowState) (t : TopologyState) → w.kept ≡ kept_of t.rules w.source w.target w.tables → create_refusal t w.source w.target w.tables ≡ None → IsKept t w
all_stood w t kept none = by
  where
    sides : Option WorkflowFault
    sides = option_or (refuse_if (is_sharded t.keyspaces w.source) ShardedSource) (tables_refusal t w.source w.target w.tables)

    refused : List ℕ → Option WorkflowFault
    refused table = option_or (conflict_of t.rules w.source w.target table) (refuse_if (is_denied_by_hand t w.source w.target table) (DeniedByHand table))

    behind : (table : List ℕ) → moves (live_of w) table ≡ true → option_or (refuse_if (is_present t.keyspaces w.target table) (TargetHasTable table)) (refused table) ≡ None
    behind table moves =
        then_none (refuse_if (not (is_present t.keyspaces w.source table)) (NoTable table)) (option_or (refuse_if (is_present t.keyspaces w.target table) (TargetHasTable table)) (refused table))
        (none_refused t w.source w.target w.tables table
        (then_none (refuse_if (is_sharded t.keyspaces w.source) ShardedSource) (tables_refusal t w.source w.target w.tables)
        (then_none (refuse_if (same_text w.source w.target) SameKeyspace) sides (then_none (refuse_if (length w.tables == 0) NoTables) (option_or (refuse_if (same_text w.source w.target) SameKeyspace) sides) none))) moves)

    not_there : (table : List ℕ) → moves (live_of w) table ≡ true → is_present t.keyspaces w.target table ≡ false
    not_there table moves =
        unless (is_present t.keyspaces w.target table) (TargetHasTable table) (first_none (refuse_if (is_present t.keyspaces w.target table) (TargetHasTable table)) (refused table) (behind table moves))

    allowed : (table : List ℕ) → moves (live_of w) table ≡ true → is_denied_by_hand t w.source w.target table ≡ false
    allowed table moves =
        unless (is_denied_by_hand t w.source w.target table) (DeniedByHand table)
        (then_none (conflict_of t.rules w.source w.target table) (refuse_if (is_denied_by_hand t w.source w.target table) (DeniedByHand table))
        (then_none (refuse_if (is_present t.keyspaces w.target table) (TargetHasTable table)) (refused table) (behind table moves)))

    at_sides : (a b one other : Bool) (keyspace table : List ℕ) → same_text w.source keyspace ≡ a → same_text w.target keyspace ≡ b → is_denied t.keyspaces w.source table ≡ one → is_denied t.keyspaces w.target table ≡ other
        → (a || b) ≡ true → (one || other) ≡ false → is_denied t.keyspaces keyspace table ≡ false
    at_sides true b false other keyspace table s g d e side free = ap (λ k. is_denied t.keyspaces k table) (sym ((same_text_decides w.source keyspace).0 s)) ∙ d
    at_sides false true one false keyspace table s g d e side free = ap (λ k. is_denied t.keyspaces k table) (sym ((same_text_decides w.target keyspace).0 g)) ∙ e
    at_sides true b true other keyspace table s g d e side free = absurd cc
    at_sides false true true true keyspace table s g d e side free = absurd cc
    at_sides false true false true keyspace table s g d e side free = absurd cc
    at_sides false false one other keyspace table s g d e side free = absurd cc

    by : IsKept t w
    by (about.Rule key) part = ap (entry.Rule key) (stood w t kept key part)
    by (about.Denied keyspace table) part =
        let parts = both (moves (live_of w) table) (is_side (live_of w) keyspace) part in
        ap (entry.Denied keyspace table)
        (sym (at_sides (same_text w.source keyspace) (same_text w.target keyspace) (is_denied t.keyspaces w.source table) (is_denied t.keyspaces w.target table) keyspace table refl refl refl refl parts.1 (allowed table parts.0)))
    by (about.Present keyspace table) part =
        let parts = both (moves (live_of w) table) (same_text w.target keyspace) part in
        ap (entry.Present keyspace table) (sym (ap (λ k. is_present t.keyspaces k table) (sym ((same_text_decides w.target keyspace).0 parts.1)) ∙ not_there table parts.0))
