-- A table by hand as an event.
use Rattle.std.proofs.Common.{◌≡◌, ◌≢◌, ◌⊎◌, inl, inr, ⊎_elim, ℕ, ◌≤◌, ◌<◌, Bool, true, false, not, cond, List, [], ◌∷◌, find, fold, length, Option, None, Some, is_some, refl, sym, ap, ◌∙◌, subst}
use Rattle.std.proofs.lemmas.Bool.{cases_lt, true≢false}
use Rattle.std.proofs.lemmas.Map.{length-set_value}
use Rattle.std.specs.List.{list_any}
use Rattle.std.specs.Map.{lookup, set_value}
use Rattle.std.specs.Option.{option_map_or}
use Rattle.std.specs.Prelude.{◌&&◌, ◌||◌, nat_le}
use Rattle.mt_names.specs.Names.{same_text}
use Rattle.mt_names.specs.Shards.{AreCuts, shard_count}
use Rattle.mt_names.proofs.EntryLemmas.{apart as differs, is_some-set_value, same_itself, same_or_other}
use Rattle.mt_names.proofs.SameLemmas.{same_text_decides}
use Rattle.mt_model.specs.declared.entries.Entry.TheVariants as entry
use Rattle.mt_model.specs.declared.entries.EntryKey.TheVariants as about
use Rattle.mt_model.specs.declared.entries.Scope.{Scope}
use Rattle.mt_model.specs.declared.faults.TopologyFault.TheVariants as fault
use Rattle.mt_model.specs.Limits.{most_tables_in_keyspace}
use Rattle.mt_model.specs.Topology.{KeyspaceState, TopologyState, cuts_at, has_place, is_marked, is_present, keyspace_at, value_of, with_table}
use Rattle.mt_model.specs.Topology as model
use Rattle.mt_primary.specs.Primary.{PrimaryState, has_table, is_denied_at, row_at}
use Rattle.mt_primary.specs.Writes.{with_new_table}
use Rattle.mt_topology.specs.Edits.{add_table_refusal, new_table_refusal}
use Rattle.mt_plain.specs.Answers.{Answers, answer_of}
use Rattle.mt_plain.specs.Events.{Answer, Event, add_table, done, exists, full, no_keyspace}
use Rattle.mt_plain.specs.Next.{next}
use Rattle.mt_plain.specs.Plain.{Live, Plain, among, has_keyspace, moves, part_owner}
use Rattle.mt_plain.specs.Refuse.{or_else, refusal_of, refuse_if, table_count}
use Rattle.mt_plain.specs.Serve.{mark_in, served_by}
use Rattle.mt_plain.specs.Serve as plain
use Rattle.mt_laws.specs.Places.{IsWithinLimits}
use Rattle.mt_laws.specs.WayBack.{IsReached}
use Rattle.mt_laws.proofs.CutLemmas.{cuts_changed}
use Rattle.mt_stands.specs.Topologies.{TopologyStands}
use Rattle.mt_stands.specs.Rows as rows
use Rattle.mt_stands.specs.ByHand.{AddsTable}
use Rattle.mt_primary.specs.Primaries.{Primaries, count_of, primary_of, with_all}
use Rattle.mt_primary.proofs.PrimariesLemmas.{count-with_all, cuts-with_all, has-with_all, length-with_all, with_all-each, with_all-elsewhere, with_all-here, with_all-past}
use Rattle.mt_stands.specs.Base.{BaseState}
use Rattle.mt_stands.specs.Stands.{ArePrimaries, StandsWith, Steps}
use Rattle.mt_refinement.proofs.KeptLemmas.{Laws, base_stands, does_steps}
use Rattle.mt_refinement.proofs.OwnedLemmas.{any_found}
use Rattle.mt_refinement.proofs.HandRefusalLemmas.{table_told, told}

-- what the laws say of it
pub record TableLaws : Type 0 where
  pub answered : (p : Plain) (event : Event) → Answers p event (answer_of p event)
  pub limits : (p : Plain) → IsReached p → IsWithinLimits p
  pub places : (p : Plain) → IsReached p → (keyspace table : List ℕ) → has_place p.topology (about.Present keyspace table) ≡ is_present p.topology.keyspaces keyspace table
  pub count : (p : Plain) (t : TopologyState) (keyspace : List ℕ) (state : KeyspaceState) → IsReached p → TopologyStands p t → keyspace_at t.keyspaces keyspace ≡ Some state → length state.tables ≡ table_count p keyspace
  pub made : (t : TopologyState) (keyspace table : List ℕ) → is_some (keyspace_at t.keyspaces keyspace) ≡ true → value_of (with_table t keyspace table) (about.Present keyspace table) ≡ entry.Present keyspace table true
  pub no_other : (t : TopologyState) (keyspace table k n : List ℕ) → about.Present keyspace table ≢ about.Present k n → value_of (with_table t keyspace table) (about.Present k n) ≡ value_of t (about.Present k n)
  pub topology : (p : Plain) (t : TopologyState) (keyspace table : List ℕ) → Answers p (add_table keyspace table) done → TopologyStands p t → TopologyStands (next p (add_table keyspace table) done) (with_table t keyspace table)
  pub keeps : (p : Plain) → IsReached p → (old new : rows.Primaries) → rows.RowsStand p old → (keyspace table : List ℕ) → Answers p (add_table keyspace table) done → rows.OtherKeyspacesStay keyspace old new
      → ((n : ℕ) → rows.OtherTablesStay (table ∷ []) (old keyspace n) (new keyspace n)) → ((n key : ℕ) → row_at (new keyspace n) table key ≡ None) → rows.RowsStand (next p (add_table keyspace table) done) new
  pub stays : (old : PrimaryState) (tables : List (List ℕ)) → rows.OtherTablesStay tables old (fold with_new_table old tables)
  pub empty : (old : PrimaryState) (tables : List (List ℕ)) → ((table : List ℕ) → among tables table ≡ true → has_table old table ≡ false)
      → (table : List ℕ) → among tables table ≡ true → (key : ℕ) → row_at (fold with_new_table old tables) table key ≡ None
  pub there : (old : PrimaryState) (tables : List (List ℕ)) (table : List ℕ) → has_table (fold with_new_table old tables) table ≡ (among tables table || has_table old table)
  pub allowed : (old : PrimaryState) (tables : List (List ℕ)) (table : List ℕ) → is_denied_at (fold with_new_table old tables) table ≡ is_denied_at old table

-- ---- the tables of a topology that stands

module _ (k n : List ℕ) where
  abbrev test : Live → Bool
  test w = moves w n && same_text w.target k

  marked_by : (u : TopologyState) (ws : List Live) → mark_in (option_map_or (λ w. served_by u w (about.Present k n)) (find test ws) (value_of u (about.Present k n))) ≡ cond (list_any test ws) true (is_present u.keyspaces k n)
  marked_by u ws = by (find test ws) ∙ ap (λ b. cond b true (is_present u.keyspaces k n)) (sym (any_found test ws))
    where
      by : (o : Option Live) → mark_in (option_map_or (λ w. served_by u w (about.Present k n)) o (value_of u (about.Present k n))) ≡ cond (is_some o) true (is_present u.keyspaces k n)
      by None = refl
      by (Some w) = refl

  -- a table that is there is one that it says to be there
  pub present_is : (p : Plain) (t : TopologyState) → TopologyStands p t → is_present t.keyspaces k n ≡ plain.has_table p k n
  present_is p t stands = ap mark_in (stands.served.entries (about.Present k n)) ∙ marked_by p.topology p.lives

  -- and one that has a place
  pub placed_is : (p : Plain) (t : TopologyState) → TopologyStands p t → has_place p.topology (about.Present k n) ≡ is_present p.topology.keyspaces k n
      → has_place t (about.Present k n) ≡ is_present t.keyspaces k n
  placed_is p t stands places =
      stands.places (about.Present k n) ∙ ap (λ b. is_some (part_owner p (about.Present k n)) || b) places ∙ by (is_some (part_owner p (about.Present k n)))
      ∙ ap (λ b. cond b true (is_present p.topology.keyspaces k n)) (sym (any_found test p.lives)) ∙ sym (present_is p t stands)
    where
      by : (b : Bool) → (b || is_present p.topology.keyspaces k n) ≡ cond b true (is_present p.topology.keyspaces k n)
      by true = refl
      by false = refl

-- ---- a table more leaves the keyspaces

module _ (t : TopologyState) (keyspace table : List ℕ) where
  keyspaces_stay : (k : List ℕ) → is_some (keyspace_at (with_table t keyspace table).keyspaces k) ≡ is_some (keyspace_at t.keyspaces k)
  keyspaces_stay k = by (keyspace_at t.keyspaces keyspace)
    where
      by : (o : Option KeyspaceState)
          → is_some (keyspace_at (option_map_or (λ state. set_value (same_text keyspace) t.keyspaces (model.with_new_table table state)) o t.keyspaces) k) ≡ is_some (keyspace_at t.keyspaces k)
      by None = refl
      by (Some state) = is_some-set_value same_text t.keyspaces keyspace k (model.with_new_table table state)

  cuts_stay : (k : List ℕ) → cuts_at (with_table t keyspace table).keyspaces k ≡ cuts_at t.keyspaces k
  cuts_stay k = cuts_changed (model.with_new_table table) (λ state. refl) t.keyspaces keyspace k

  count_stays : length (with_table t keyspace table).keyspaces ≡ length t.keyspaces
  count_stays = by (keyspace_at t.keyspaces keyspace)
    where
      by : (o : Option KeyspaceState) → length (option_map_or (λ state. set_value (same_text keyspace) t.keyspaces (model.with_new_table table state)) o t.keyspaces) ≡ length t.keyspaces
      by None = refl
      by (Some state) = length-set_value (same_text keyspace) t.keyspaces (model.with_new_table table state)

-- ---- what refuses it

module _ (laws : Laws) (law : TableLaws) (p : Plain) (scopes : List Scope) (old : BaseState) (keyspace table : List ℕ) (stands : StandsWith p scopes old) where
  abbrev at_old : Option KeyspaceState
  at_old = keyspace_at old.topology.keyspaces keyspace

  table_refusing : refusal_of p (add_table keyspace table) ≡ told (add_table_refusal old.topology.keyspaces keyspace table)
  table_refusing =
      ap (λ b. or_else (refuse_if (not b) no_keyspace) (or_else (refuse_if (plain.has_table p keyspace table) exists) (refuse_if (nat_le most_tables_in_keyspace (table_count p keyspace)) full)))
      (sym (stands.topology.served.keyspaces keyspace))
      ∙ ap (λ b. or_else (refuse_if (not (is_some at_old)) no_keyspace) (or_else (refuse_if b exists) (refuse_if (nat_le most_tables_in_keyspace (table_count p keyspace)) full)))
      (sym (present_is keyspace table p old.topology stands.topology))
      ∙ by at_old refl
    where
      by : (o : Option KeyspaceState) → at_old ≡ o
          → or_else (refuse_if (not (is_some o)) no_keyspace)
          (or_else (refuse_if (option_map_or (λ state. is_marked state.tables table) o false) exists) (refuse_if (nat_le most_tables_in_keyspace (table_count p keyspace)) full))
          ≡ told (option_map_or (λ state. new_table_refusal state table) o (Some fault.NoKeyspace))
      by None at = refl
      by (Some state) at =
          let count : length state.tables ≡ table_count p keyspace = law.count p old.topology keyspace state stands.reached stands.topology at in
          let limit = (law.limits p stands.reached).tables keyspace in
          let placed = placed_is keyspace table p old.topology stands.topology (law.places p stands.reached keyspace table) in
          ap (λ m. or_else (refuse_if (is_marked state.tables table) exists) (refuse_if (nat_le most_tables_in_keyspace m) full)) (sym count)
          ∙ table_told state table (subst (λ m. m ≤ most_tables_in_keyspace) (sym count) limit)
          (sym (ap (λ (o : Option KeyspaceState). option_map_or (λ state. is_some (lookup (same_text table) state.tables)) o false) at) ∙ placed
          ∙ ap (λ (o : Option KeyspaceState). option_map_or (λ state. is_marked state.tables table) o false) at)

  -- ---- what is made

  module _ (given : Answers p (add_table keyspace table) done) where
    abbrev q : Plain
    q = next p (add_table keyspace table) done

    abbrev change : PrimaryState → PrimaryState
    change primary = with_new_table primary table

    abbrev more : Primaries
    more = with_all old.primaries keyspace change

    is_there : has_keyspace p keyspace ≡ true
    is_there = by (has_keyspace p keyspace) given.0
      where
        by : (b : Bool) → or_else (refuse_if (not b) no_keyspace) (or_else (refuse_if (plain.has_table p keyspace table) exists) (refuse_if (nat_le most_tables_in_keyspace (table_count p keyspace)) full)) ≡ None → b ≡ true
        by true e = refl
        by false e = absurd cc

    is_new : plain.has_table p keyspace table ≡ false
    is_new = by (has_keyspace p keyspace) (plain.has_table p keyspace table) given.0
      where
        by : (b h : Bool) → or_else (refuse_if (not b) no_keyspace) (or_else (refuse_if h exists) (refuse_if (nat_le most_tables_in_keyspace (table_count p keyspace)) full)) ≡ None → h ≡ false
        by true true e = absurd cc
        by false true e = absurd cc
        by b false e = refl

    -- a shard of the keyspace has the table then, and hadn't before
    module _ (n : ℕ) (within : n < count_of old.primaries keyspace) where
      abbrev before : PrimaryState
      before = primary_of old.primaries keyspace n

      now : primary_of more keyspace n ≡ change before
      now = with_all-here old.primaries keyspace change n within

      absent : (other : List ℕ) → among (table ∷ []) other ≡ true → has_table before other ≡ false
      absent other named = by (same_text table other) refl named
        where
          by : (b : Bool) → same_text table other ≡ b → (b || false) ≡ true → has_table before other ≡ false
          by true same e =
              let at : table ≡ other = (same_text_decides table other).0 same in
              subst (λ name. has_table before name ≡ false) at (stands.primaries.tables keyspace n within table ∙ is_new)
          by false same e = absurd (true≢false (sym e))

      no_row : (key : ℕ) → row_at (primary_of more keyspace n) table key ≡ None
      no_row key = ap (λ s. row_at s table key) now ∙ law.empty before (table ∷ []) absent table (ap (λ b. b || false) (same_itself same_text same_text_decides table)) key

    no_rows : (n key : ℕ) → row_at (primary_of more keyspace n) table key ≡ None
    no_rows n key = ⊎_elim (λ within. no_row n within key) (λ past. ap (λ s. row_at s table key) (with_all-past old.primaries keyspace change n past)) (cases_lt n (count_of old.primaries keyspace))

    others_stay : (n : ℕ) → rows.OtherTablesStay (table ∷ []) (primary_of old.primaries keyspace n) (primary_of more keyspace n)
    others_stay n =
        with_all-each old.primaries keyspace change (λ k m was is. rows.OtherTablesStay (table ∷ []) was is) (λ k m q. record { log = refl; rows = λ other apart key. refl })
        (λ m within. law.stays (primary_of old.primaries keyspace m) (table ∷ [])) keyspace n

    table_rows : rows.RowsStand q (primary_of more)
    table_rows =
        law.keeps p stands.reached (primary_of old.primaries) (primary_of more) stands.rows keyspace table given (λ other apart n. with_all-elsewhere old.primaries keyspace change other n apart) others_stay no_rows

    -- the new state says the same of every other table
    present_next : (k n : List ℕ) → (keyspace ≡ k → table ≢ n) → is_present (with_table p.topology keyspace table).keyspaces k n ≡ is_present p.topology.keyspaces k n
    present_next k n apart =
        ap mark_in (law.no_other p.topology keyspace table k n
        (λ e. let same_k : keyspace ≡ k = cc in let same_n : table ≡ n = cc in apart same_k same_n))

    present_here : is_present (with_table p.topology keyspace table).keyspaces keyspace table ≡ true
    present_here = ap mark_in (law.made p.topology keyspace table is_there)

    abbrev table_in : (k n : List ℕ) → Bool → Bool
    table_in k n b = cond (list_any (test k n) p.lives) true b

    always : (b : Bool) → cond b true true ≡ true
    always true = refl
    always false = refl

    tables_elsewhere : (k : List ℕ) → keyspace ≢ k → (n : ℕ) → n < count_of old.primaries k → (name : List ℕ) → has_table (primary_of more k n) name ≡ plain.has_table q k name
    tables_elsewhere k apart n within name =
        ap (λ s. has_table s name) (with_all-elsewhere old.primaries keyspace change k n apart) ∙ stands.primaries.tables k n within name
        ∙ ap (table_in k name) (sym (present_next k name (λ e. absurd (apart e))))

    tables_here : (n : ℕ) → n < count_of old.primaries keyspace → (name : List ℕ) → has_table (primary_of more keyspace n) name ≡ plain.has_table q keyspace name
    tables_here n within name = ap (λ s. has_table s name) (now n within) ∙ law.there (before n within) (table ∷ []) name ∙ by (same_or_other same_text same_text_decides table name)
      where
        by : (table ≡ name) ⊎ (table ≢ name) → ((same_text table name || false) || has_table (before n within) name) ≡ plain.has_table q keyspace name
        by (inl e) =
            subst (λ x. ((same_text table x || false) || has_table (before n within) x) ≡ plain.has_table q keyspace x) e
            (ap (λ b. (b || false) || has_table (before n within) table) (same_itself same_text same_text_decides table)
            ∙ sym (ap (table_in keyspace table) present_here ∙ always (list_any (test keyspace table) p.lives)))
        by (inr apart) =
            ap (λ b. (b || false) || has_table (before n within) name) (differs same_text same_text_decides table name apart) ∙ stands.primaries.tables keyspace n within name
            ∙ ap (table_in keyspace name) (sym (present_next keyspace name (λ e. apart)))

    tables_now : (k : List ℕ) (n : ℕ) → n < count_of old.primaries k → (name : List ℕ) → has_table (primary_of more k n) name ≡ plain.has_table q k name
    tables_now k =
        ⊎_elim (λ e. subst (λ x. (n : ℕ) → n < count_of old.primaries x → (name : List ℕ) → has_table (primary_of more x n) name ≡ plain.has_table q x name) e tables_here)
        (tables_elsewhere k) (same_or_other same_text same_text_decides keyspace k)

    denials_now : (k : List ℕ) (n : ℕ) (name : List ℕ) → is_denied_at (primary_of more k n) name ≡ is_denied_at (primary_of old.primaries k n) name
    denials_now k n name =
        with_all-each old.primaries keyspace change (λ j m was is. is_denied_at is name ≡ is_denied_at was name) (λ j m q. refl)
        (λ m within. law.allowed (primary_of old.primaries keyspace m) (table ∷ []) name) k n

    was_within : (k : List ℕ) (n : ℕ) → n < count_of more k → n < count_of old.primaries k
    was_within k n within = subst (λ m. n < m) (count-with_all old.primaries keyspace change k) within

    table_primaries : ArePrimaries q more
    table_primaries = record {
      there = λ k. has-with_all old.primaries keyspace change k ∙ stands.primaries.there k ∙ sym (keyspaces_stay p.topology keyspace table k);
      count = length-with_all old.primaries keyspace change ∙ stands.primaries.count ∙ sym (count_stays p.topology keyspace table);
      cuts = λ k. cuts-with_all old.primaries keyspace change k ∙ stands.primaries.cuts k ∙ sym (cuts_stay p.topology keyspace table k);
      ascend = λ k. subst AreCuts (sym (cuts_stay p.topology keyspace table k)) (stands.primaries.ascend k);
      shards = λ k there. count-with_all old.primaries keyspace change k ∙ stands.primaries.shards k (sym (keyspaces_stay p.topology keyspace table k) ∙ there)
          ∙ ap shard_count (sym (cuts_stay p.topology keyspace table k));
      tables = λ k n within name. tables_now k n (was_within k n within) name;
      denials = λ k n within name. denials_now k n name ∙ stands.primaries.denials k n (was_within k n within) name;
    }

    table_making : StandsWith q scopes (record old { topology = with_table old.topology keyspace table; primaries = more })
    table_making =
        base_stands laws p (add_table keyspace table) done stands.reached given refl scopes old (record old { topology = with_table old.topology keyspace table; primaries = more }) stands refl
        (law.topology p old.topology keyspace table given stands.topology) table_rows table_primaries

pub table_steps : Laws → TableLaws → (scopes : List Scope) (old new : BaseState) (keyspace table : List ℕ) (answer : Answer) → AddsTable old keyspace table answer new → Steps scopes old (add_table keyspace table) answer new
table_steps laws law scopes old new keyspace table answer did p stands =
    does_steps p scopes old (record old { topology = with_table old.topology keyspace table; primaries = with_all old.primaries keyspace (λ primary. with_new_table primary table) }) (add_table keyspace table)
    (told (add_table_refusal old.topology.keyspaces keyspace table)) true refl (λ e. refl) (table_refusing laws law p scopes old keyspace table stands) stands
    (table_making laws law p scopes old keyspace table stands) (law.answered p (add_table keyspace table)) answer new did
