-- In each state that a run reaches a table has a number just where it is there, and no other table has it.
use Rattle.std.proofs.Common.{◌≡◌, ◌≢◌, ◌⊎◌, inl, inr, ℕ, Bool, true, false, not, cond, List, [], ◌∷◌, ◌++◌, map, length, Option, None, Some, refl, sym, ap, ◌∙◌, subst}
use Rattle.std.proofs.lemmas.Bool.{true≢false, and_from, or_right, not-false}
use Rattle.std.specs.List.{list_any}
use Rattle.std.specs.Prelude.{◌&&◌, nat_le}
use Rattle.mt_names.specs.Names.{same_text}
use Rattle.mt_names.specs.Same.{same_target}
use Rattle.mt_names.specs.Shards.{Cuts}
use Rattle.mt_names.proofs.EntryLemmas.{lookup-push_stood, none_from, same_or_other}
use Rattle.mt_names.proofs.SameLemmas.{same_target_decides, same_text_decides}
use Rattle.mt_model.specs.declared.entries.EntryKey.TheVariants as about
use Rattle.mt_model.specs.declared.entries.Scope.{Scope}
use Rattle.mt_model.specs.Limits.{most_keyspaces, most_tables_in_keyspace}
use Rattle.mt_model.specs.Topology.{HasDistinctPlaces, TopologyState, is_present, keyspace_at, with_keyspace, with_rule, with_table}
use Rattle.mt_model.proofs.DistinctLemmas.{distinct-empty, distinct-rules, distinct-with_keyspace, distinct-with_rule, distinct-with_table}
use Rattle.mt_model.proofs.TopologyLemmas.{value_of-with_table_here, value_of-with_keyspace}
use Rattle.mt_plain.specs.Answers.{Answers}
use Rattle.mt_plain.specs.Events.{Event, add_keyspace, add_table, edit_rule, create, advance, complete, Answer, done, row, advanced, shown, refused, exists, full, no_keyspace}
use Rattle.mt_plain.specs.Next.{completed, next, next_taken, number_moved, with_completed}
use Rattle.mt_plain.specs.Plain.{Live, Plain, each_once, has_keyspace, in_keyspace, live_at, moves, opening}
use Rattle.mt_plain.specs.Refuse.{or_else, refusal_of, refuse_if, table_count}
use Rattle.mt_plain.specs.Serve.{has_table}
use Rattle.mt_laws.specs.Changes.{ChangesTopology, HasSides}
use Rattle.mt_laws.specs.Numbers.{Numbers, number_at}
use Rattle.mt_laws.specs.WayBack.{IsReached, ends_workflow}
use Rattle.mt_laws.proofs.ChangeLemmas.{sides-next}
use Rattle.mt_laws.proofs.CompleteLemmas.{absent_at_source, distinct-completed, number-at_source, number-at_target, number-elsewhere, number-unmoved, present_at_target, present_elsewhere as completed_elsewhere}
use Rattle.mt_laws.proofs.EntryValueLemmas.{present_from_value, value_of-completed}
use Rattle.mt_laws.proofs.LiveLemmas.{IsIn, find_some}
use Rattle.mt_laws.proofs.PartLemmas.{HasParts, IsPlaced, value-kept}
use Rattle.mt_laws.proofs.ReachLemmas.{ComesFrom, comes_from, create-none, new, not_ended, old, named, taken_or_same, reached_keeps}
use Rattle.mt_laws.proofs.RefusalLemmas.{or_else-none, refuse_if-none}
use Rattle.mt_laws.proofs.TableLemmas.{has-pushed, is_present-with_keyspace, is_present-with_table, number-pushed, present_elsewhere}
use Rattle.mt_laws.proofs.UntouchedLemmas.{same_numbers, same_topology}

-- a table is there by the topology alone just where it has a number; and the target has none of the tables that are moved to it
pub record IsNumbered (p : Plain) : Type 0 where
  pub places : HasDistinctPlaces p.topology
  pub numbered : (keyspace table : List ℕ) → is_present p.topology.keyspaces keyspace table ≡ true → (n : ℕ) × (number_at p.numbers (in_keyspace keyspace table) ≡ Some n)
  pub present : (keyspace table : List ℕ) (n : ℕ) → number_at p.numbers (in_keyspace keyspace table) ≡ Some n → is_present p.topology.keyspaces keyspace table ≡ true
  pub vacant : (w : Live) → IsIn w p.lives → (table : List ℕ) → moves w table ≡ true → is_present p.topology.keyspaces w.target table ≡ false

opening_is_numbered : (scopes : List Scope) → IsNumbered (opening scopes)
opening_is_numbered scopes = record {
  places = distinct-empty;
  numbered = λ keyspace table has. absurd (true≢false (sym has));
  present = λ keyspace table n at_it. absurd cc;
  vacant = λ w is. absurd is;
}

-- a table that isn't there has no number
pub unnumbered : (p : Plain) → IsNumbered p → (keyspace table : List ℕ) → is_present p.topology.keyspaces keyspace table ≡ false → number_at p.numbers (in_keyspace keyspace table) ≡ None
unnumbered p is keyspace table absent = by (number_at p.numbers (in_keyspace keyspace table)) refl
  where
    by : (o : Option ℕ) → number_at p.numbers (in_keyspace keyspace table) ≡ o → number_at p.numbers (in_keyspace keyspace table) ≡ None
    by None e = e
    by (Some n) e = absurd (true≢false (sym (is.present keyspace table n e) ∙ absent))

-- ---- the topology and the numbers after an event

record Tables (u : TopologyState) (numbers : Numbers) : Type 0 where
  places : HasDistinctPlaces u
  numbered : (keyspace table : List ℕ) → is_present u.keyspaces keyspace table ≡ true → (n : ℕ) × (number_at numbers (in_keyspace keyspace table) ≡ Some n)
  present : (keyspace table : List ℕ) (n : ℕ) → number_at numbers (in_keyspace keyspace table) ≡ Some n → is_present u.keyspaces keyspace table ≡ true

tables_of : (p : Plain) → IsNumbered p → Tables p.topology p.numbers
tables_of p is = record { places = is.places; numbered = is.numbered; present = is.present }

keyspace-tables : (p : Plain) (name : List ℕ) (cuts : Cuts) → IsNumbered p → refusal_of p (add_keyspace name cuts) ≡ None → Tables (with_keyspace p.topology name cuts) p.numbers
keyspace-tables p name cuts is none = record {
  places = distinct-with_keyspace p.topology name cuts (none_from (keyspace_at p.topology.keyspaces name) (refuse_if-none (has_keyspace p name) exists (or_else-none (refuse_if (has_keyspace p name) exists) (refuse_if (nat_le most_keyspaces (length p.topology.keyspaces)) full) none).0)) is.places;
  numbered = λ keyspace table has. is.numbered keyspace table (is_present-with_keyspace p.topology name cuts keyspace table has);
  present = λ keyspace table n e.
      present_from_value (with_keyspace p.topology name cuts) p.topology keyspace table (value_of-with_keyspace p.topology name cuts (about.Present keyspace table)) ∙ is.present keyspace table n e;
}

table_there : (p : Plain) (keyspace table : List ℕ) → refusal_of p (add_table keyspace table) ≡ None → has_keyspace p keyspace ≡ true
table_there p keyspace table none =
    let rest = or_else (refuse_if (has_table p keyspace table) exists) (refuse_if (nat_le most_tables_in_keyspace (table_count p keyspace)) full) in
    not-false (has_keyspace p keyspace) (refuse_if-none (not (has_keyspace p keyspace)) no_keyspace (or_else-none (refuse_if (not (has_keyspace p keyspace)) no_keyspace) rest none).0)

made-tables : (p : Plain) (k t : List ℕ) → IsNumbered p → refusal_of p (add_table k t) ≡ None → Tables (with_table p.topology k t) (p.numbers ++ (in_keyspace k t, p.made) ∷ [])
made-tables p k t is none = record {
  places = distinct-with_table p.topology k t is.places;
  numbered = λ keyspace table has. numbered keyspace table has (same_or_other same_target same_target_decides (in_keyspace k t) (in_keyspace keyspace table));
  present = λ keyspace table n e. present keyspace table n e (same_or_other same_target same_target_decides (in_keyspace k t) (in_keyspace keyspace table));
}
  where
    more : Numbers
    more = p.numbers ++ (in_keyspace k t, p.made) ∷ []

    numbered : (keyspace table : List ℕ) → is_present (with_table p.topology k t).keyspaces keyspace table ≡ true → (in_keyspace k t ≡ in_keyspace keyspace table) ⊎ (in_keyspace k t ≢ in_keyspace keyspace table) → (n : ℕ) × (number_at more (in_keyspace keyspace table) ≡ Some n)
    numbered keyspace table has (inl same) = has-pushed p.numbers (in_keyspace k t) p.made (in_keyspace keyspace table) (sym same)
    numbered keyspace table has (inr other) =
        let was = is.numbered keyspace table (is_present-with_table p.topology k t keyspace table other has) in
        (was.0, lookup-push_stood same_target p.numbers (in_keyspace k t, p.made) (in_keyspace keyspace table) was.0 was.1)

    here : is_present (with_table p.topology k t).keyspaces k t ≡ true
    here = let e = value_of-with_table_here p.topology k t (table_there p k t none) in cc

    present : (keyspace table : List ℕ) (n : ℕ) → number_at more (in_keyspace keyspace table) ≡ Some n → (in_keyspace k t ≡ in_keyspace keyspace table) ⊎ (in_keyspace k t ≢ in_keyspace keyspace table) → is_present (with_table p.topology k t).keyspaces keyspace table ≡ true
    present keyspace table n e (inl same) = subst (λ x. is_present (with_table p.topology k t).keyspaces x.keyspace x.table ≡ true) same here
    present keyspace table n e (inr other) =
        present_elsewhere p.topology k t keyspace table other ∙ stood (number-pushed p.numbers (in_keyspace k t) p.made (in_keyspace keyspace table) n e)
      where
        stood : (number_at p.numbers (in_keyspace keyspace table) ≡ Some n) ⊎ ((in_keyspace keyspace table ≡ in_keyspace k t) × (n ≡ p.made)) → is_present p.topology.keyspaces keyspace table ≡ true
        stood (inl before) = is.present keyspace table n before
        stood (inr made) = absurd (other (sym made.0))

module _ (p : Plain) (w : Live) (is : IsNumbered p) (placed : IsPlaced p.topology w) (in_it : IsIn w p.lives) where
  abbrev u : TopologyState
  u = completed p.topology w

  abbrev numbers : Numbers
  numbers = map (number_moved w) p.numbers

  unmoved-present : (keyspace table : List ℕ) → moves w table ≡ false → is_present u.keyspaces keyspace table ≡ is_present p.topology.keyspaces keyspace table
  unmoved-present keyspace table unmoved = present_from_value u p.topology keyspace table (value_of-completed p.topology w (about.Present keyspace table) unmoved)

  -- the number of a moved table goes on at the target
  pub number-goes_on : (table : List ℕ) → moves w table ≡ true → number_at numbers (in_keyspace w.target table) ≡ number_at p.numbers (in_keyspace w.source table)
  number-goes_on table moved = number-at_target w p.numbers table moved (unnumbered p is w.target table (is.vacant w in_it table moved))

  moved-numbered : (keyspace table : List ℕ) → moves w table ≡ true → (w.source ≡ keyspace) ⊎ (w.source ≢ keyspace) → (w.target ≡ keyspace) ⊎ (w.target ≢ keyspace) → is_present u.keyspaces keyspace table ≡ true → (n : ℕ) × (number_at numbers (in_keyspace keyspace table) ≡ Some n)
  moved-numbered keyspace table moved (inl from) to has =
      absurd (true≢false (sym has ∙ ap (λ k. is_present u.keyspaces k table) (sym from) ∙ absent_at_source p.topology w placed.sides is.places placed.source table (named w.tables table moved)))
  moved-numbered keyspace table moved (inr from) (inl to) has =
      let was = is.numbered w.source table (placed.there table moved) in
      (was.0, ap (λ k. number_at numbers (in_keyspace k table)) (sym to) ∙ number-goes_on table moved ∙ was.1)
  moved-numbered keyspace table moved (inr from) (inr to) has =
      let was = is.numbered keyspace table (sym (completed_elsewhere p.topology w placed.sides keyspace table from to) ∙ has) in
      (was.0, number-elsewhere w p.numbers keyspace table from to ∙ was.1)

  moved-present : (keyspace table : List ℕ) (n : ℕ) → moves w table ≡ true → (w.source ≡ keyspace) ⊎ (w.source ≢ keyspace) → (w.target ≡ keyspace) ⊎ (w.target ≢ keyspace) → number_at numbers (in_keyspace keyspace table) ≡ Some n → is_present u.keyspaces keyspace table ≡ true
  moved-present keyspace table n moved (inl from) to e =
      let f : None ≡ Some n = sym (number-at_source w p.numbers table moved placed.sides) ∙ ap (λ k. number_at numbers (in_keyspace k table)) from ∙ e in absurd cc
  moved-present keyspace table n moved (inr from) (inl to) e =
      ap (λ k. is_present u.keyspaces k table) (sym to) ∙ present_at_target p.topology w placed.sides placed.target table (named w.tables table moved)
  moved-present keyspace table n moved (inr from) (inr to) e =
      completed_elsewhere p.topology w placed.sides keyspace table from to ∙ is.present keyspace table n (sym (number-elsewhere w p.numbers keyspace table from to) ∙ e)

  completed-tables : Tables u numbers
  completed-tables = record {
    places = distinct-completed p.topology w is.places;
    numbered = λ keyspace table has. numbered keyspace table has (moves w table) refl;
    present = λ keyspace table n e. present keyspace table n e (moves w table) refl;
  }
    where
      numbered : (keyspace table : List ℕ) → is_present u.keyspaces keyspace table ≡ true → (t : Bool) → moves w table ≡ t → (n : ℕ) × (number_at numbers (in_keyspace keyspace table) ≡ Some n)
      numbered keyspace table has true t = moved-numbered keyspace table t (same_or_other same_text same_text_decides w.source keyspace) (same_or_other same_text same_text_decides w.target keyspace) has
      numbered keyspace table has false t =
          let was = is.numbered keyspace table (sym (unmoved-present keyspace table t) ∙ has) in
          (was.0, number-unmoved w p.numbers keyspace table t ∙ was.1)

      present : (keyspace table : List ℕ) (n : ℕ) → number_at numbers (in_keyspace keyspace table) ≡ Some n → (t : Bool) → moves w table ≡ t → is_present u.keyspaces keyspace table ≡ true
      present keyspace table n e true t = moved-present keyspace table n t (same_or_other same_text same_text_decides w.source keyspace) (same_or_other same_text same_text_decides w.target keyspace) e
      present keyspace table n e false t = unmoved-present keyspace table t ∙ is.present keyspace table n (sym (number-unmoved w p.numbers keyspace table t) ∙ e)

complete-tables : (p : Plain) (workflow : List ℕ) (o : Option Live) → live_at p workflow ≡ o → HasParts p → IsNumbered p → Tables (with_completed p o).topology (with_completed p o).numbers
complete-tables p workflow None found has is = tables_of p is
complete-tables p workflow (Some w) found has is =
    let in_it = (find_some (λ v. same_text v.name workflow) p.lives w found).0 in
    completed-tables p w is (has.placed w in_it) in_it

same-tables : (u v : TopologyState) (first more : Numbers) → v ≡ u → more ≡ first → Tables u first → Tables v more
same-tables u v first more same_u same_n t = subst (λ x. Tables x more) (sym same_u) (subst (Tables u) (sym same_n) t)

taken-tables : (p : Plain) (event : Event) → refusal_of p event ≡ None → HasParts p → IsNumbered p → Tables (next_taken p event).topology (next_taken p event).numbers
taken-tables p (add_keyspace name cuts) none has is = keyspace-tables p name cuts is none
taken-tables p (add_table k t) none has is = made-tables p k t is none
taken-tables p (edit_rule key target) none has is = record {
  places = distinct-rules p.topology (with_rule p.topology.rules key target) (distinct-with_rule p.topology.rules key target is.places.rules) is.places;
  numbered = is.numbered;
  present = is.present;
}
taken-tables p (complete workflow) none has is = complete-tables p workflow (live_at p workflow) refl has is
taken-tables p event none has is =
    same-tables p.topology (next_taken p event).topology p.numbers (next_taken p event).numbers (same_topology p event done (λ h. h)) (same_numbers p event done (λ h. h)) (tables_of p is)

next-tables : (p : Plain) (event : Event) (answer : Answer) → Answers p event answer → HasParts p → IsNumbered p → Tables (next p event answer).topology (next p event answer).numbers
next-tables p event done given has is = taken-tables p event given.0 has is
next-tables p event (row r) given has is = taken-tables p event given.0 has is
next-tables p event (shown s) given has is = tables_of p is
next-tables p event (refused refusal) given has is = tables_of p is
next-tables p (advance workflow name shard at at_most) (advanced events rows) given has is =
    same-tables p.topology (next p (advance workflow name shard at at_most) (advanced events rows)).topology p.numbers (next p (advance workflow name shard at at_most) (advanced events rows)).numbers
    (same_topology p (advance workflow name shard at at_most) (advanced events rows) (λ h. h)) (same_numbers p (advance workflow name shard at at_most) (advanced events rows) (λ h. h)) (tables_of p is)
next-tables p event (advanced events rows) given has is = tables_of p is

-- ---- the target has none of the tables that are moved to it

absent_from_list : (p : Plain) (keyspace table : List ℕ) → has_table p keyspace table ≡ false → is_present p.topology.keyspaces keyspace table ≡ false
absent_from_list p keyspace table e = by (list_any (λ w. moves w table && same_text w.target keyspace) p.lives) e
  where
    by : (t : Bool) → cond t true (is_present p.topology.keyspaces keyspace table) ≡ false → is_present p.topology.keyspaces keyspace table ≡ false
    by true f = absurd (true≢false f)
    by false f = f

-- Create finds none there
new_vacant : (p : Plain) (name source target : List ℕ) (tables : List (List ℕ)) → refusal_of p (create name source target tables) ≡ None → (table : List ℕ) → IsIn table (each_once tables) → is_present p.topology.keyspaces target table ≡ false
new_vacant p name source target tables none table is = absent_from_list p target table ((create-none p name source target tables none).each table is).2

module _ (p : Plain) (event : Event) (answer : Answer) (has : HasParts p) (given : Answers p event answer) (is : IsNumbered p) where
  abbrev q : Plain
  q = next p event answer

  vacant-next : (refusal_of p event ≡ None) ⊎ (q ≡ p) → (w : Live) → IsIn w q.lives → ComesFrom p event answer w → (table : List ℕ) → moves w table ≡ true → is_present q.topology.keyspaces w.target table ≡ false
  vacant-next either w in_it (old v i e) table moved =
      let sides : HasSides v w = subst (HasSides v) e (sides-next p event answer v) in
      let before : moves v table ≡ true = ap (list_any (λ t. same_text t table)) sides.tables ∙ moved in
      let lives = not_ended p event answer w in_it in
      let keeps = and_from (moves v table) _ before (or_right (same_text v.source v.target) (same_text v.target v.target) ((same_text_decides v.target v.target).1 refl)) in
      ap (λ k. is_present q.topology.keyspaces k table) (sym sides.target)
      ∙ present_from_value q.topology p.topology v.target table
      (value-kept p v has i (about.Present v.target table) keeps event answer given (subst (λ n. ends_workflow n event answer ≡ false) (sym sides.name) lives))
      ∙ is.vacant v i table before
  vacant-next (inl none) w in_it (new name source target tables e is_name is_source is_target is_tables rests) table moved =
      ap (λ k. is_present q.topology.keyspaces k table) is_target
      ∙ ap (λ u. is_present u.keyspaces target table) (same_topology p event answer (λ h. subst ChangesTopology e h))
      ∙ new_vacant p name source target tables (subst (λ x. refusal_of p x ≡ None) e none) table
      (named (each_once tables) table (sym (ap (list_any (λ t. same_text t table)) is_tables) ∙ moved))
  vacant-next (inr same) w in_it (new name source target tables e is_name is_source is_target is_tables rests) table moved =
      ap (λ s. is_present s.topology.keyspaces w.target table) same ∙ is.vacant w (subst (λ s. IsIn w s.lives) same in_it) table moved

  next_is_numbered : IsNumbered q
  next_is_numbered =
      let t = next-tables p event answer given has is in
      record {
        places = t.places;
        numbered = t.numbered;
        present = t.present;
        vacant = λ w in_it table moved. vacant-next (taken_or_same p event answer given) w in_it (comes_from p event answer w in_it) table moved;
      }

pub reached_is_numbered : (p : Plain) → IsReached p → IsNumbered p
reached_is_numbered = reached_keeps IsNumbered opening_is_numbered (λ p event answer has given is. next_is_numbered p event answer has given is)
