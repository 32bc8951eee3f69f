-- Where no workflow is live: each table has a number of its own, and an answer changes a row by its operation alone.
use Rattle.std.proofs.Common.{◌≡◌, ◌≢◌, ℕ, suc, ◌<◌, ◌≤◌, ◌⊎◌, Bool, true, false, not, cond, eqb, List, [], ◌∷◌, ◌++◌, Option, None, Some, refl, sym, ap, ◌∙◌, subst, arith, unwrap_or, inl, inr}
use Rattle.std.proofs.lemmas.Bool.{true≢false, eqb-true, eq-eqb, ne_eqb, not-false}
use Rattle.std.proofs.lemmas.List.Sums.{fold-append}
use Rattle.std.specs.List.{fold}
use Rattle.std.specs.Prelude.{◌&&◌}
use Rattle.mt_names.specs.declared.keys.RuleTarget.{RuleTarget}
use Rattle.mt_names.specs.Names.{same_text}
use Rattle.mt_names.specs.Shards.{Cuts}
use Rattle.mt_names.specs.Same.{same_target}
use Rattle.mt_names.proofs.EntryLemmas.{lookup-push_new, lookup-push_stood, same_or_other}
use Rattle.mt_names.proofs.SameLemmas.{same_target_decides, same_text_decides}
use Rattle.mt_model.specs.declared.entries.Scope.{Scope}
use Rattle.mt_model.specs.declared.rows.Op.{Op}
use Rattle.mt_model.specs.Rows.{Row, op_key, op_row}
use Rattle.mt_model.specs.Topology.{TopologyState, is_present, with_keyspace, with_table}
use Rattle.mt_model.specs.declared.entries.EntryKey.TheVariants as about
use Rattle.mt_model.proofs.TopologyLemmas.{value_of-with_keyspace, value_of-with_table_elsewhere}
use Rattle.mt_plain.specs.Events.{Event, write, read, add_keyspace, add_table, edit_rule, no_keyspace, no_table, done}
use Rattle.mt_plain.specs.Next.{next, next_taken, row_left}
use Rattle.mt_plain.specs.Plain.{Plain, Write, has_keyspace, in_keyspace, number_of, opening}
use Rattle.mt_plain.specs.Refuse.{refusal_of, refuse_if}
use Rattle.mt_plain.specs.Writes.{row_after_write, row_after_writes, row_of}
use Rattle.mt_laws.specs.Acknowledged.{row_with_op}
use Rattle.mt_laws.specs.Numbers.{Below, HasNumbers, IsByHand, Numbers, acknowledged_at, calm, number_at}
use Rattle.mt_laws.proofs.EntryValueLemmas.{present_from_value}
use Rattle.mt_laws.proofs.RefusalLemmas.{or_else-none, refuse_if-none}
use Rattle.mt_laws.proofs.RunLemmas.{op_left, row_is_left}

pub opening_has_numbers : (scopes : List Scope) → HasNumbers (opening scopes)
opening_has_numbers scopes = record {
  numbered = λ keyspace table has. absurd (true≢false (sym has));
  distinct = λ a b n at_a at_b. absurd cc;
  below = λ a n at_a. absurd cc;
  written = tt;
}

-- ---- which tables are there

-- a keyspace that is made has no table
pub is_present-with_keyspace : (t : TopologyState) (name : List ℕ) (cuts : Cuts) (keyspace table : List ℕ) → is_present (with_keyspace t name cuts).keyspaces keyspace table ≡ true → is_present t.keyspaces keyspace table ≡ true
is_present-with_keyspace t name cuts keyspace table has = sym (present_from_value (with_keyspace t name cuts) t keyspace table (value_of-with_keyspace t name cuts (about.Present keyspace table))) ∙ has

-- a table that is made leaves each other one
pub present_elsewhere : (t : TopologyState) (k name keyspace table : List ℕ) → in_keyspace k name ≢ in_keyspace keyspace table → is_present (with_table t k name).keyspaces keyspace table ≡ is_present t.keyspaces keyspace table
present_elsewhere t k name keyspace table other =
    present_from_value (with_table t k name) t keyspace table (value_of-with_table_elsewhere t k name (about.Present keyspace table) (λ x. other (key_same x)))
  where
    key_same : about.Present k name ≡ about.Present keyspace table → in_keyspace k name ≡ in_keyspace keyspace table
    key_same x = let a : k ≡ keyspace = cc in let b : name ≡ table = cc in ap (λ z. in_keyspace z name) a ∙ ap (in_keyspace keyspace) b

pub is_present-with_table : (t : TopologyState) (k name keyspace table : List ℕ) → in_keyspace k name ≢ in_keyspace keyspace table → is_present (with_table t k name).keyspaces keyspace table ≡ true → is_present t.keyspaces keyspace table ≡ true
is_present-with_table t k name keyspace table other has = sym (present_elsewhere t k name keyspace table other) ∙ has

-- ---- the numbers after an event

pub Below-more : (bound more : ℕ) (writes : List Write) → bound ≤ more → Below bound writes → Below more writes
Below-more bound more [] le all = tt
Below-more bound more (w ∷ ws) le all = let h = all.0 in (omega arith, Below-more bound more ws le all.1)

pub Below-push : (bound : ℕ) (writes : List Write) (w : Write) → Below bound writes → w.table < bound → Below bound (writes ++ w ∷ [])
Below-push bound [] w all lt = (lt, tt)
Below-push bound (v ∷ vs) w all lt = (all.0, Below-push bound vs w all.1 lt)

-- the numbers with one more: a number there stood before, or is the new table's
module _ (numbers : Numbers) (new : RuleTarget) (bound : ℕ) where
  pub number-pushed : (a : RuleTarget) (n : ℕ) → number_at (numbers ++ (new, bound) ∷ []) a ≡ Some n → (number_at numbers a ≡ Some n) ⊎ ((a ≡ new) × (n ≡ bound))
  number-pushed a n at_a = by (number_at numbers a) refl
    where
      new_one : (t : Bool) → same_target a new ≡ t → cond t (Some bound) None ≡ Some n → (a ≡ new) × (n ≡ bound)
      new_one true t e = ((same_target_decides a new).0 t, cc)
      new_one false t e = absurd cc

      by : (o : Option ℕ) → number_at numbers a ≡ o → (number_at numbers a ≡ Some n) ⊎ ((a ≡ new) × (n ≡ bound))
      by (Some m) at_it = let is = lookup-push_stood same_target numbers (new, bound) a m at_it in inl (at_it ∙ sym is ∙ at_a)
      by None at_it = let is = lookup-push_new same_target numbers (new, bound) a at_it in inr (new_one (same_target a new) refl (sym is ∙ at_a))

  -- and the new table has one
  pub has-pushed : (a : RuleTarget) → a ≡ new → (n : ℕ) × (number_at (numbers ++ (new, bound) ∷ []) a ≡ Some n)
  has-pushed a same = by (number_at numbers a) refl
    where
      by : (o : Option ℕ) → number_at numbers a ≡ o → (n : ℕ) × (number_at (numbers ++ (new, bound) ∷ []) a ≡ Some n)
      by (Some m) at_it = (m, lookup-push_stood same_target numbers (new, bound) a m at_it)
      by None at_it = (bound, lookup-push_new same_target numbers (new, bound) a at_it ∙ ap (λ t. cond t (Some bound) None) ((same_target_decides a new).1 same))

-- the new one is the bound
module _ (p : Plain) (reached : HasNumbers p) (new : RuleTarget) where
  abbrev pushed : Numbers
  pushed = p.numbers ++ (new, p.made) ∷ []

  distinct-pushed : (a b : RuleTarget) (n : ℕ) → number_at pushed a ≡ Some n → number_at pushed b ≡ Some n → a ≡ b
  distinct-pushed a b n at_a at_b = by (number-pushed p.numbers new p.made a n at_a) (number-pushed p.numbers new p.made b n at_b)
    where
      by : (number_at p.numbers a ≡ Some n) ⊎ ((a ≡ new) × (n ≡ p.made)) → (number_at p.numbers b ≡ Some n) ⊎ ((b ≡ new) × (n ≡ p.made)) → a ≡ b
      by (inl x) (inl y) = reached.distinct a b n x y
      by (inl x) (inr y) = absurd (let lt = reached.below a n x in let e = y.1 in omega arith)
      by (inr x) (inl y) = absurd (let lt = reached.below b n y in let e = x.1 in omega arith)
      by (inr x) (inr y) = x.0 ∙ sym y.0

  below-pushed : (a : RuleTarget) (n : ℕ) → number_at pushed a ≡ Some n → n < suc p.made
  below-pushed a n at_a = by (number-pushed p.numbers new p.made a n at_a)
    where
      by : (number_at p.numbers a ≡ Some n) ⊎ ((a ≡ new) × (n ≡ p.made)) → n < suc p.made
      by (inl x) = let lt = reached.below a n x in omega arith
      by (inr x) = let e = x.1 in omega arith

table_is_there : (p : Plain) (keyspace table : List ℕ) (op : Op) → refusal_of (calm p) (write keyspace table op) ≡ None → is_present p.topology.keyspaces keyspace table ≡ true
table_is_there p keyspace table op none =
    let unknown = (or_else-none _ _ none).0 in
    not-false (is_present p.topology.keyspaces keyspace table) (refuse_if-none (not (is_present p.topology.keyspaces keyspace table)) no_table (or_else-none (refuse_if (not (has_keyspace p keyspace)) no_keyspace) (refuse_if (not (is_present p.topology.keyspaces keyspace table)) no_table) unknown).1)

-- a table that is there has a number, by which its writes are told
number_of_there : (p : Plain) (keyspace table : List ℕ) → HasNumbers p → is_present p.topology.keyspaces keyspace table ≡ true → (n : ℕ) × (number_at p.numbers (in_keyspace keyspace table) ≡ Some n) × (number_of p keyspace table ≡ n)
number_of_there p keyspace table reached has =
    let there = reached.numbered keyspace table has in
    (there.0, there.1, ap (λ o. unwrap_or o p.made) there.1)

write_has_numbers : (p : Plain) (keyspace table : List ℕ) (op : Op) → HasNumbers p → refusal_of (calm p) (write keyspace table op) ≡ None → HasNumbers (next_taken (calm p) (write keyspace table op))
write_has_numbers p keyspace table op reached none =
    let there = number_of_there p keyspace table reached (table_is_there p keyspace table op none) in
    let below : number_of p keyspace table < p.made = subst (λ n. n < p.made) (sym there.2) (reached.below (in_keyspace keyspace table) there.0 there.1) in
    record { numbered = reached.numbered; distinct = reached.distinct; below = reached.below; written = Below-push p.made p.writes _ reached.written below }

keyspace_has_numbers : (p : Plain) (name : List ℕ) (cuts : Cuts) → HasNumbers p → HasNumbers (next_taken (calm p) (add_keyspace name cuts))
keyspace_has_numbers p name cuts reached = record {
  numbered = λ keyspace table has. reached.numbered keyspace table (is_present-with_keyspace p.topology name cuts keyspace table has);
  distinct = reached.distinct;
  below = reached.below;
  written = reached.written;
}

table_has_numbers : (p : Plain) (k name : List ℕ) → HasNumbers p → HasNumbers (next_taken (calm p) (add_table k name))
table_has_numbers p k name reached = record {
  numbered = λ keyspace table has. at keyspace table has (same_or_other same_target same_target_decides (in_keyspace k name) (in_keyspace keyspace table));
  distinct = distinct-pushed p reached (in_keyspace k name);
  below = below-pushed p reached (in_keyspace k name);
  written = Below-more p.made (suc p.made) p.writes (omega arith) reached.written;
}
  where
    at : (keyspace table : List ℕ) → is_present (with_table p.topology k name).keyspaces keyspace table ≡ true → (in_keyspace k name ≡ in_keyspace keyspace table) ⊎ (in_keyspace k name ≢ in_keyspace keyspace table) → (n : ℕ) × (number_at (p.numbers ++ (in_keyspace k name, p.made) ∷ []) (in_keyspace keyspace table) ≡ Some n)
    at keyspace table has (inl same) = has-pushed p.numbers (in_keyspace k name) p.made (in_keyspace keyspace table) (sym same)
    at keyspace table has (inr other) =
        let there = reached.numbered keyspace table (is_present-with_table p.topology k name keyspace table other has) in
        (there.0, lookup-push_stood same_target p.numbers (in_keyspace k name, p.made) (in_keyspace keyspace table) there.0 there.1)

taken_has_numbers : (p : Plain) (event : Event) → IsByHand event → HasNumbers p → refusal_of (calm p) event ≡ None → HasNumbers (next_taken (calm p) event)
taken_has_numbers p (write keyspace table op) by_hand reached none = write_has_numbers p keyspace table op reached none
taken_has_numbers p (read keyspace table key tablet_type) by_hand reached none = record { numbered = reached.numbered; distinct = reached.distinct; below = reached.below; written = reached.written }
taken_has_numbers p (add_keyspace name cuts) by_hand reached none = keyspace_has_numbers p name cuts reached
taken_has_numbers p (add_table k name) by_hand reached none = table_has_numbers p k name reached
taken_has_numbers p (edit_rule key target) by_hand reached none = record { numbered = reached.numbered; distinct = reached.distinct; below = reached.below; written = reached.written }
taken_has_numbers p other by_hand reached none = absurd by_hand

-- two names that aren't one table have two numbers
number_apart : (p : Plain) (k t keyspace table : List ℕ) (n : ℕ) → HasNumbers p → number_at p.numbers (in_keyspace k t) ≡ Some n → number_of p k t ≡ n → in_keyspace k t ≢ in_keyspace keyspace table → number_of p k t ≢ number_of p keyspace table
number_apart p k t keyspace table n reached at_n is other same = by (number_at p.numbers (in_keyspace keyspace table)) refl
  where
    by : (o : Option ℕ) → number_at p.numbers (in_keyspace keyspace table) ≡ o → ⊥
    by None at_it =
        let made : number_of p keyspace table ≡ p.made = ap (λ o. unwrap_or o p.made) at_it in
        let lt = reached.below (in_keyspace k t) n at_n in
        let e : n ≡ p.made = sym is ∙ same ∙ made in
        omega arith
    by (Some m) at_it =
        let one : number_of p keyspace table ≡ m = ap (λ o. unwrap_or o p.made) at_it in
        let e : n ≡ m = sym is ∙ same ∙ one in
        other (reached.distinct (in_keyspace k t) (in_keyspace keyspace table) n at_n (at_it ∙ ap Some (sym e)))

same_numbers : (p : Plain) (k t keyspace table : List ℕ) (n : ℕ) → HasNumbers p → number_at p.numbers (in_keyspace k t) ≡ Some n → number_of p k t ≡ n → eqb (number_of p k t) (number_of p keyspace table) ≡ (same_text k keyspace && same_text t table)
same_numbers p k t keyspace table n reached at_n is = by (same_text k keyspace) refl (same_text t table) refl
  where
    apart : in_keyspace k t ≢ in_keyspace keyspace table → eqb (number_of p k t) (number_of p keyspace table) ≡ false
    apart other = ne_eqb (number_of p k t) (number_of p keyspace table) (number_apart p k t keyspace table n reached at_n is other)

    by : (a : Bool) → same_text k keyspace ≡ a → (b : Bool) → same_text t table ≡ b → eqb (number_of p k t) (number_of p keyspace table) ≡ (a && b)
    by true a true b =
        eq-eqb (number_of p k t) (number_of p keyspace table)
        (ap (λ x. number_of p x t) ((same_text_decides k keyspace).0 a) ∙ ap (number_of p keyspace) ((same_text_decides t table).0 b))
    by true a false b = apart (λ e. true≢false (sym ((same_text_decides t table).1 (ap (λ x. x.table) e)) ∙ b))
    by false a b e = apart (λ e. true≢false (sym ((same_text_decides k keyspace).1 (ap (λ x. x.keyspace) e)) ∙ a))

-- one write more, by whether it is to this row
write_row : (n a b c : Bool) (left before : Row) (op : Op) → n ≡ (a && b) → (a ≡ true → b ≡ true → c ≡ true → left ≡ row_with_op before op) → cond (n && c) left before ≡ fold row_with_op before (cond (a && b && c) (op ∷ []) [])
write_row n true true true left before op e is = rw e (is refl refl refl)
write_row n true true false left before op e is = rw e refl
write_row n true false c left before op e is = rw e refl
write_row n false b c left before op e is = rw e refl

pub write_at : (p : Plain) (k t : List ℕ) (op : Op) → HasNumbers p → refusal_of (calm p) (write k t op) ≡ None → (keyspace table : List ℕ) (key : ℕ) → row_of (next_taken (calm p) (write k t op)) keyspace table key ≡ fold row_with_op (row_of (calm p) keyspace table key) (acknowledged_at keyspace table key (write k t op) done)
write_at p k t op reached none keyspace table key =
    let there = number_of_there p k t reached (table_is_there p k t op none) in
    fold-append (row_after_write (number_of p keyspace table) key) None p.writes (w ∷ [])
    ∙ write_row (eqb (number_of p k t) (number_of p keyspace table)) (same_text k keyspace) (same_text t table) (eqb (op_key op) key) w.after (row_of (calm p) keyspace table key) op
    (same_numbers p k t keyspace table there.0 reached there.1 there.2)
    (λ a b c. left ∙ ap (λ before. row_with_op before op)
    (ap (λ x. row_of (calm p) x t (op_key op)) ((same_text_decides k keyspace).0 a) ∙ ap (λ x. row_of (calm p) keyspace x (op_key op)) ((same_text_decides t table).0 b) ∙ ap (row_of (calm p) keyspace table) (eqb-true (op_key op) key c)))
  where
    w : Write
    w = record { table = number_of p k t; key = op_key op; after = row_left (op_row op (row_of (calm p) k t (op_key op))) }

    left : w.after ≡ row_with_op (row_of (calm p) k t (op_key op)) op
    left = op_left op (row_of (calm p) k t (op_key op)) (row_is_left (calm p) k t op none)

-- ---- the row after a table is made

-- no write is of a number that no table has yet
pub unwritten : (writes : List Write) (bound number key : ℕ) → Below bound writes → bound ≤ number → row_after_writes writes number key ≡ None
unwritten [] bound number key all le = refl
unwritten (w ∷ ws) bound number key all le =
    let lt = all.0 in
    let other : eqb w.table number ≡ false = ne_eqb w.table number (λ e. absurd (omega arith)) in
    rw other (unwritten ws bound number key all.1 le)

table_at : (p : Plain) (k t : List ℕ) → HasNumbers p → (keyspace table : List ℕ) (key : ℕ) → row_of (next_taken (calm p) (add_table k t)) keyspace table key ≡ row_of (calm p) keyspace table key
table_at p k t reached keyspace table key = by (number_at p.numbers (in_keyspace keyspace table)) refl
  where
    more : Numbers
    more = p.numbers ++ (in_keyspace k t, p.made) ∷ []

    row_by_number : ℕ → Row
    row_by_number number = row_after_writes p.writes number key

    later : (b : Bool) → row_by_number (unwrap_or (cond b (Some p.made) None) (suc p.made)) ≡ None
    later true = unwritten p.writes p.made p.made key reached.written (omega arith)
    later false = unwritten p.writes p.made (suc p.made) key reached.written (omega arith)

    by : (o : Option ℕ) → number_at p.numbers (in_keyspace keyspace table) ≡ o → row_of (next_taken (calm p) (add_table k t)) keyspace table key ≡ row_of (calm p) keyspace table key
    by (Some m) at_it =
        let now = lookup-push_stood same_target p.numbers (in_keyspace k t, p.made) (in_keyspace keyspace table) m at_it in
        ap (λ o. row_by_number (unwrap_or o (suc p.made))) now ∙ sym (ap (λ o. row_by_number (unwrap_or o p.made)) at_it)
    by None at_it =
        let now = lookup-push_new same_target p.numbers (in_keyspace k t, p.made) (in_keyspace keyspace table) at_it in
        let before : row_of (calm p) keyspace table key ≡ None = ap (λ o. row_by_number (unwrap_or o p.made)) at_it ∙ unwritten p.writes p.made p.made key reached.written (omega arith) in
        ap (λ o. row_by_number (unwrap_or o (suc p.made))) now ∙ later (same_target (in_keyspace keyspace table) (in_keyspace k t)) ∙ sym before

-- ---- any of these events

taken_at : (p : Plain) (event : Event) → IsByHand event → HasNumbers p → refusal_of (calm p) event ≡ None → (keyspace table : List ℕ) (key : ℕ) → row_of (next_taken (calm p) event) keyspace table key ≡ fold row_with_op (row_of (calm p) keyspace table key) (acknowledged_at keyspace table key event done)
taken_at p (write k t op) by_hand reached none keyspace table key = write_at p k t op reached none keyspace table key
taken_at p (read k t n tablet_type) by_hand reached none keyspace table key = refl
taken_at p (add_keyspace name cuts) by_hand reached none keyspace table key = refl
taken_at p (add_table k t) by_hand reached none keyspace table key = table_at p k t reached keyspace table key
taken_at p (edit_rule rule target) by_hand reached none keyspace table key = refl
taken_at p other by_hand reached none keyspace table key = absurd by_hand

-- an event that is done by hand: the numbers after it, and the rows
pub done_has_numbers : (p : Plain) (event : Event) → IsByHand event → HasNumbers p → refusal_of (calm p) event ≡ None → HasNumbers (next (calm p) event done)
done_has_numbers p event by_hand reached none = taken_has_numbers p event by_hand reached none

pub done_at : (p : Plain) (event : Event) → IsByHand event → HasNumbers p → refusal_of (calm p) event ≡ None → (keyspace table : List ℕ) (key : ℕ) → row_of (next (calm p) event done) keyspace table key ≡ fold row_with_op (row_of (calm p) keyspace table key) (acknowledged_at keyspace table key event done)
done_at p event by_hand reached none keyspace table key = taken_at p event by_hand reached none keyspace table key
