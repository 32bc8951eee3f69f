-- What holds of the live workflows and their parts in each state that a run reaches.
use Rattle.std.proofs.Common.{◌≡◌, ◌≢◌, ◌⊎◌, inl, inr, ℕ, Bool, true, false, not, cond, List, Option, None, Some, is_some, refl, sym, ap, ◌∙◌, subst}
use Rattle.std.proofs.lemmas.Bool.{true≢false, and_from, and_parts, or_cases, or_right}
use Rattle.std.specs.List.{list_any}
use Rattle.std.specs.Prelude.{◌&&◌, nat_le}
use Rattle.mt_names.specs.declared.keys.RuleKey.{RuleKey}
use Rattle.mt_names.specs.declared.keys.RuleTarget.{RuleTarget}
use Rattle.mt_names.specs.Names.{same_text}
use Rattle.mt_names.proofs.EntryLemmas.{none_from}
use Rattle.mt_names.proofs.SameLemmas.{same_text_decides}
use Rattle.mt_model.specs.declared.entries.EntryKey.{EntryKey}
use Rattle.mt_model.specs.declared.entries.EntryKey.TheVariants as about
use Rattle.mt_model.specs.declared.entries.Scope.{Scope}
use Rattle.mt_model.specs.Limits.{most_tables_in_keyspace}
use Rattle.mt_model.specs.Topology.{TopologyState, is_denied, is_present, keyspace_at, value_of, with_table}
use Rattle.mt_model.proofs.TopologyLemmas.{value_of-with_keyspace, value_of-with_table_elsewhere}
use Rattle.mt_model.proofs.PartLemmas.{table_of}
use Rattle.mt_plain.specs.Answers.{Answers}
use Rattle.mt_plain.specs.Events.{Event, add_keyspace, add_table, edit_rule, complete, Answer, done, row, advanced, shown, refused, exists, full, no_keyspace, rule_owned, Way}
use Rattle.mt_plain.specs.Next.{next, next_taken, with_completed}
use Rattle.mt_plain.specs.Plain.{Live, Plain, has_keyspace, has_part, is_side, live_at, moves, opening, part_owner, stands_done, write_journal}
use Rattle.mt_plain.specs.Refuse.{or_else, refusal_of, refuse_if, rule_refusal, table_count}
use Rattle.mt_plain.specs.Serve.{has_table}
use Rattle.mt_laws.specs.WayBack.{ends_workflow}
use Rattle.mt_laws.proofs.EntryValueLemmas.{value_of-completed, value_of-with_rule}
use Rattle.mt_laws.proofs.LiveLemmas.{Apart, IsIn, any-in, find_none, find_some, text_apart, unique}
use Rattle.mt_laws.proofs.RefusalLemmas.{or_else-none, refuse_if-none}
use Rattle.mt_laws.proofs.UntouchedLemmas.{same_topology}

-- a workflow's sides are two keyspaces, and the source has its tables in the topology as if no workflow were live
pub record IsPlaced (u : TopologyState) (w : Live) : Type 0 where
  pub sides : w.source ≢ w.target
  pub source : is_some (keyspace_at u.keyspaces w.source) ≡ true
  pub target : is_some (keyspace_at u.keyspaces w.target) ≡ true
  pub there : (table : List ℕ) → moves w table ≡ true → is_present u.keyspaces w.source table ≡ true

-- before the journal the switched types are those from before the way
abbrev pub IsSettled : Live → Type 0
IsSettled w = (way : Way) → w.way ≡ Some way → stands_done way write_journal ≡ false → w.switched ≡ way.before

pub record HasParts (p : Plain) : Type 0 where
  pub apart : Apart p.lives
  pub placed : (w : Live) → IsIn w p.lives → IsPlaced p.topology w
  pub settled : (w : Live) → IsIn w p.lives → IsSettled w
  pub undenied : (keyspace table : List ℕ) → is_denied p.topology.keyspaces keyspace table ≡ false

pub opening_has_parts : (scopes : List Scope) → HasParts (opening scopes)
opening_has_parts scopes = record {
  apart = tt;
  placed = λ w is. absurd is;
  settled = λ w is. absurd is;
  undenied = λ keyspace table. refl;
}

-- ---- the entries that a workflow keeps: its part, and its tables at the source

abbrev pub is_kept : Live → EntryKey → Bool
is_kept w (about.Rule key) = has_part w (about.Rule key)
is_kept w (about.Denied keyspace table) = has_part w (about.Denied keyspace table)
is_kept w (about.Present keyspace table) = moves w table && is_side w keyspace

pub moved_from_kept : (w : Live) (key : EntryKey) → is_kept w key ≡ true → moves w (table_of key) ≡ true
moved_from_kept w (about.Rule key) e = (and_parts _ _ e).0
moved_from_kept w (about.Denied keyspace table) e = (and_parts _ _ e).0
moved_from_kept w (about.Present keyspace table) e = (and_parts _ _ e).0

pub kept_from_part : (w : Live) (key : EntryKey) → has_part w key ≡ true → is_kept w key ≡ true
kept_from_part w (about.Rule key) e = e
kept_from_part w (about.Denied keyspace table) e = e
kept_from_part w (about.Present keyspace table) e =
    let r = and_parts (moves w table) (same_text w.target keyspace) e in
    and_from (moves w table) (is_side w keyspace) r.0 (or_right (same_text w.source keyspace) (same_text w.target keyspace) r.1)

pub moved_from_part : (w : Live) (key : EntryKey) → has_part w key ≡ true → moves w (table_of key) ≡ true
moved_from_part w key e = moved_from_kept w key (kept_from_part w key e)

-- a table that a workflow moves is there at both sides
there_from_list : (p : Plain) (keyspace table : List ℕ) → list_any (λ w. moves w table && same_text w.target keyspace) p.lives ≡ true → has_table p keyspace table ≡ true
there_from_list p keyspace table e = rw e refl

there_from_topology : (p : Plain) (keyspace table : List ℕ) → is_present p.topology.keyspaces keyspace table ≡ true → has_table p keyspace table ≡ true
there_from_topology p keyspace table e = by (list_any (λ w. moves w table && same_text w.target keyspace) p.lives)
  where
    by : (t : Bool) → cond t true (is_present p.topology.keyspaces keyspace table) ≡ true
    by true = refl
    by false = e

pub there_at_target : (p : Plain) (w : Live) (table : List ℕ) → IsIn w p.lives → moves w table ≡ true → has_table p w.target table ≡ true
there_at_target p w table is moved =
    there_from_list p w.target table
    (any-in (λ v. moves v table && same_text v.target w.target) p.lives w is (and_from (moves w table) (same_text w.target w.target) moved ((same_text_decides w.target w.target).1 refl)))

pub there_at_source : (p : Plain) (w : Live) (table : List ℕ) → HasParts p → IsIn w p.lives → moves w table ≡ true → has_table p w.source table ≡ true
there_at_source p w table has is moved = there_from_topology p w.source table ((has.placed w is).there table moved)

there_if_kept : (p : Plain) (w : Live) (keyspace table : List ℕ) → HasParts p → IsIn w p.lives → is_kept w (about.Present keyspace table) ≡ true → has_table p keyspace table ≡ true
there_if_kept p w keyspace table has is kept = by (or_cases (same_text w.source keyspace) (same_text w.target keyspace) (and_parts (moves w table) (is_side w keyspace) kept).1)
  where
    moved : moves w table ≡ true
    moved = (and_parts (moves w table) (is_side w keyspace) kept).0

    by : (same_text w.source keyspace ≡ true) ⊎ (same_text w.target keyspace ≡ true) → has_table p keyspace table ≡ true
    by (inl e) = subst (λ k. has_table p k table ≡ true) ((same_text_decides w.source keyspace).0 e) (there_at_source p w table has is moved)
    by (inr e) = subst (λ k. has_table p k table ≡ true) ((same_text_decides w.target keyspace).0 e) (there_at_target p w table is moved)

-- ---- no event but Complete changes an entry that a live workflow keeps

pub add_table-none : (p : Plain) (keyspace table : List ℕ) → refusal_of p (add_table keyspace table) ≡ None → has_table p keyspace table ≡ false
add_table-none p keyspace table none =
    let limit = refuse_if (nat_le most_tables_in_keyspace (table_count p keyspace)) full in
    let r = or_else-none (refuse_if (not (has_keyspace p keyspace)) no_keyspace) (or_else (refuse_if (has_table p keyspace table) exists) limit) none in
    refuse_if-none (has_table p keyspace table) exists (or_else-none (refuse_if (has_table p keyspace table) exists) limit r.1).0

pub edit_rule-none : (p : Plain) (key : RuleKey) (target : Option RuleTarget) → refusal_of p (edit_rule key target) ≡ None → part_owner p (about.Rule key) ≡ None
edit_rule-none p key target none =
    none_from (part_owner p (about.Rule key))
    (refuse_if-none (is_some (part_owner p (about.Rule key))) rule_owned (or_else-none (refuse_if (is_some (part_owner p (about.Rule key))) rule_owned) (rule_refusal p key target) none).0)

-- Complete of another workflow
complete-kept : (p : Plain) (w : Live) (key : EntryKey) (workflow : List ℕ) (o : Option Live) → live_at p workflow ≡ o → HasParts p → IsIn w p.lives → is_kept w key ≡ true → same_text workflow w.name ≡ false
    → value_of (with_completed p o).topology key ≡ value_of p.topology key
complete-kept p w key workflow None found has is kept other = refl
complete-kept p w key workflow (Some v) found has is kept other = value_of-completed p.topology v key (by (moves v (table_of key)) refl)
  where
    in_v : IsIn v p.lives × (same_text v.name workflow ≡ true)
    in_v = find_some (λ x. same_text x.name workflow) p.lives v found

    by : (t : Bool) → moves v (table_of key) ≡ t → moves v (table_of key) ≡ false
    by true t =
        let one = unique p.lives v w has.apart in_v.0 is (λ apart. apart.tables (table_of key) t (moved_from_kept w key kept)) in
        absurd (text_apart workflow w.name other (sym ((same_text_decides v.name workflow).0 in_v.1) ∙ ap (λ x. x.name) one))
    by false t = t

module _ (p : Plain) (w : Live) (has : HasParts p) (is : IsIn w p.lives) (key : EntryKey) (kept : is_kept w key ≡ true) where
  table-kept : (keyspace table : List ℕ) → refusal_of p (add_table keyspace table) ≡ None → value_of (with_table p.topology keyspace table) key ≡ value_of p.topology key
  table-kept keyspace table none =
      value_of-with_table_elsewhere p.topology keyspace table key
      (λ e. true≢false (sym (there_if_kept p w keyspace table has is (subst (λ k. is_kept w k ≡ true) (sym e) kept)) ∙ add_table-none p keyspace table none))

  rule-kept : (rule : RuleKey) (target : Option RuleTarget) → refusal_of p (edit_rule rule target) ≡ None → value_of (next_taken p (edit_rule rule target)).topology key ≡ value_of p.topology key
  rule-kept rule target none =
      value_of-with_rule p.topology rule target key
      (λ e. true≢false (sym (subst (λ k. is_kept w k ≡ true) (sym e) kept) ∙ find_none (λ v. has_part v (about.Rule rule)) p.lives (edit_rule-none p rule target none) w is))

  pub value-kept : (event : Event) (answer : Answer) → Answers p event answer → ends_workflow w.name event answer ≡ false → value_of (next p event answer).topology key ≡ value_of p.topology key
  value-kept event (refused refusal) given lives = refl
  value-kept event (shown s) given lives = refl
  value-kept (add_keyspace keyspace cuts) done given lives = value_of-with_keyspace p.topology keyspace cuts key
  value-kept (add_table keyspace table) done given lives = table-kept keyspace table given.0
  value-kept (edit_rule rule target) done given lives = rule-kept rule target given.0
  value-kept (complete workflow) done given lives = complete-kept p w key workflow (live_at p workflow) refl has is kept lives
  value-kept (add_keyspace keyspace cuts) (row r) given lives = value_of-with_keyspace p.topology keyspace cuts key
  value-kept (add_table keyspace table) (row r) given lives = table-kept keyspace table given.0
  value-kept (edit_rule rule target) (row r) given lives = rule-kept rule target given.0
  value-kept (complete workflow) (row r) given lives = let h : row r ≡ done = given.1 in absurd cc
  value-kept (add_keyspace keyspace cuts) (advanced events rows) given lives = refl
  value-kept (add_table keyspace table) (advanced events rows) given lives = refl
  value-kept (edit_rule rule target) (advanced events rows) given lives = refl
  value-kept (complete workflow) (advanced events rows) given lives = refl
  value-kept event answer given lives = ap (λ u. value_of u key) (same_topology p event answer (λ h. h))
