-- A write and a read as events.
use Rattle.std.proofs.Common.{◌≡◌, ℕ, ◌<◌, Bool, true, false, List, Option, None, Some, Result, Ok, Err, is_some, refl, sym, ap, ◌∙◌, subst}
use Rattle.std.specs.Option.{option_map}
use Rattle.std.specs.Prelude.{if◌then◌else◌}
use Rattle.mt_names.specs.declared.types.TabletType.{TabletType}
use Rattle.mt_names.specs.declared.types.TabletType.TheVariants.{Primary, Replica, Rdonly}
use Rattle.mt_model.specs.declared.entries.Scope.{Scope}
use Rattle.mt_model.specs.declared.faults.PrimaryFault.{PrimaryFault}
use Rattle.mt_model.specs.declared.faults.PrimaryFault.TheVariants as primary
use Rattle.mt_model.specs.declared.rows.Op.{Op}
use Rattle.mt_model.specs.Rows.{Row, op_key}
use Rattle.mt_model.specs.Topology.{TopologyState}
use Rattle.mt_primary.specs.Primary.{PrimaryState, TableState, has_table, is_denied_at, row_at, table_at}
use Rattle.mt_primary.specs.Reads.{refuses_type}
use Rattle.mt_primary.specs.Writes.{Writes}
use Rattle.mt_plain.specs.Answers.{Answers}
use Rattle.mt_plain.specs.Events.{Event, Answer, read, row, write}
use Rattle.mt_plain.specs.Next.{next}
use Rattle.mt_plain.specs.Plain.{Plain, has_keyspace, shard_at}
use Rattle.mt_plain.specs.Serve.{refuses}
use Rattle.mt_plain.specs.Serve as plain
use Rattle.mt_plain.specs.Writes.{row_of}
use Rattle.mt_laws.specs.Changes.{IsOfRows}
use Rattle.mt_laws.specs.WayBack.{IsReached}
use Rattle.mt_stands.specs.Topologies.{TopologyStands}
use Rattle.mt_stands.specs.Answers.{answer_by}
use Rattle.mt_stands.specs.Rows as rows
use Rattle.mt_stands.specs.ByHand.{ReadsRow, WritesAt, WritesRow, answer_by_read, read_at}
use Rattle.mt_primary.specs.Primaries.{Primaries, ShardsState, count_of, place_of_key, primary_in, primary_of, shards_at, shards_of, with_primary}
use Rattle.mt_primary.proofs.PrimariesLemmas.{shards_from_found, with_primary-here, with_primary-other}
use Rattle.mt_stands.specs.Base.{BaseState}
use Rattle.mt_stands.specs.Stands.{StandsWith, Steps}
use Rattle.mt_refinement.proofs.KeptLemmas.{Laws, base_stands}
use Rattle.mt_refinement.proofs.PrimaryLemmas.{primaries_next, primaries_set}
use Rattle.mt_refinement.proofs.ShardLemmas.{key_within, place_is}

-- ---- what a write leaves of a primary

tables_by_made : (a b : Option TableState) → option_map (λ (t : TableState). t.made) a ≡ option_map (λ (t : TableState). t.made) b → is_some a ≡ is_some b
tables_by_made None None e = refl
tables_by_made None (Some t) e = absurd cc
tables_by_made (Some t) None e = absurd cc
tables_by_made (Some t) (Some u) e = refl

-- a refused one leaves all
pub refused_same : (before after : PrimaryState) (table : List ℕ) (op : Op) (fault : PrimaryFault) → Writes before table op (Err fault) after → after ≡ before
refused_same before after table op primary.Memory did = did.1
refused_same before after table op other did = did.1

tables_stay : (before after : PrimaryState) (table : List ℕ) (op : Op) (result : Result ℕ PrimaryFault) → Writes before table op result after → (n : List ℕ) → has_table after n ≡ has_table before n
tables_stay before after table op (Ok position) written n = tables_by_made (table_at after n) (table_at before n) (written.put.made n)
tables_stay before after table op (Err fault) did n = ap (λ s. has_table s n) (refused_same before after table op fault did)

denials_stay : (before after : PrimaryState) (table : List ℕ) (op : Op) (result : Result ℕ PrimaryFault) → Writes before table op result after → (n : List ℕ) → is_denied_at after n ≡ is_denied_at before n
denials_stay before after table op (Ok position) written n = written.put.denied n
denials_stay before after table op (Err fault) did n = ap (λ s. is_denied_at s n) (refused_same before after table op fault did)

-- ---- a write

-- what the laws say of a write
pub record WriteLaws : Type 0 where
  pub topology : (p : Plain) (t : TopologyState) (event : Event) (answer : Answer) → IsReached p → IsOfRows event → Answers p event answer → TopologyStands p t → TopologyStands (next p event answer) t
  pub rows : (p : Plain) → IsReached p → (old new : rows.Primaries) → rows.RowsStand p old → (keyspace table : List ℕ) (op : Op) → has_keyspace p keyspace ≡ true
      → has_table (old keyspace (shard_at p keyspace (op_key op))) table ≡ plain.has_table p keyspace table
      → is_denied_at (old keyspace (shard_at p keyspace (op_key op))) table ≡ refuses p keyspace (shard_at p keyspace (op_key op)) table
      → rows.OthersStay keyspace (shard_at p keyspace (op_key op)) old new
      → (result : Result ℕ PrimaryFault) → Writes (old keyspace (shard_at p keyspace (op_key op))) table op result (new keyspace (shard_at p keyspace (op_key op)))
      → Answers p (write keyspace table op) (answer_by result) × rows.RowsStand (next p (write keyspace table op) (answer_by result)) new

module _ (p : Plain) (keyspace table : List ℕ) (op : Op) where
  same_topology : (result : Result ℕ PrimaryFault) → (next p (write keyspace table op) (answer_by result)).topology ≡ p.topology
  same_topology (Ok position) = refl
  same_topology (Err fault) = refl

  same_lives : (result : Result ℕ PrimaryFault) → (next p (write keyspace table op) (answer_by result)).lives ≡ p.lives
  same_lives (Ok position) = refl
  same_lives (Err fault) = refl

-- the primary that a key stands in is that of the shard that the state says
module _ (p : Plain) (scopes : List Scope) (old : BaseState) (stands : StandsWith p scopes old) (keyspace : List ℕ) (key : ℕ) (shards : ShardsState) (found : shards_at old.primaries keyspace ≡ Some shards) where
  is_keyspace : has_keyspace p keyspace ≡ true
  is_keyspace = sym (stands.primaries.there keyspace) ∙ ap is_some found

  are_shards : shards ≡ shards_of old.primaries keyspace
  are_shards = sym (shards_from_found old.primaries keyspace shards found)

  at_place : place_of_key shards key ≡ shard_at p keyspace key
  at_place = ap (λ s. place_of_key s key) are_shards ∙ place_is p old.primaries stands.primaries keyspace key

  at_primary : primary_in shards (place_of_key shards key) ≡ primary_of old.primaries keyspace (shard_at p keyspace key)
  at_primary = ap (primary_in shards) at_place ∙ ap (λ s. primary_in s (shard_at p keyspace key)) are_shards

module _ (laws : Laws) (law : WriteLaws) (p : Plain) (scopes : List Scope) (old new : BaseState) (keyspace table : List ℕ) (op : Op) (stands : StandsWith p scopes old) where
  abbrev Done : Answer → BaseState → Type 0
  Done answer base = Answers p (write keyspace table op) answer × StandsWith (next p (write keyspace table op) answer) scopes base

  abbrev shard : ℕ
  shard = shard_at p keyspace (op_key op)

  abbrev before : PrimaryState
  before = primary_of old.primaries keyspace shard

  module _ (after : PrimaryState) (is_there : has_keyspace p keyspace ≡ true) where
    abbrev set : Primaries
    set = with_primary old.primaries keyspace shard after

    abbrev made : BaseState
    made = record old { primaries = set }

    within : shard < count_of old.primaries keyspace
    within = key_within p old.primaries stands.primaries keyspace is_there (op_key op)

    write_stands : (result : Result ℕ PrimaryFault) → Writes before table op result after → Done (answer_by result) made
    write_stands result did =
        let both = law.rows p stands.reached (primary_of old.primaries) (primary_of set) stands.rows keyspace table op is_there
        (stands.primaries.tables keyspace shard within table) (stands.primaries.denials keyspace shard within table) (with_primary-other old.primaries keyspace shard after) result
        (subst (Writes before table op result) (sym (with_primary-here old.primaries keyspace shard after within)) did) in (
          both.0,
          base_stands laws p (write keyspace table op) (answer_by result) stands.reached both.0 (same_lives p keyspace table op result) scopes old made stands refl
              (law.topology p old.topology (write keyspace table op) (answer_by result) stands.reached tt both.0 stands.topology) both.1
              (primaries_next p (next p (write keyspace table op) (answer_by result)) (same_topology p keyspace table op result) (same_lives p keyspace table op result) set
              (primaries_set old.primaries keyspace shard after p stands.primaries (tables_stay before after table op result did) (denials_stay before after table op result did))),
        )

  write_at : (answer : Answer) (o : Option ShardsState) → shards_at old.primaries keyspace ≡ o → WritesAt o old keyspace table op answer new → Done answer new
  write_at answer None found did =
      let absent : has_keyspace p keyspace ≡ false = sym (stands.primaries.there keyspace) ∙ ap is_some found in
      rw did.0 (rw absent refl, subst (StandsWith p scopes) (sym did.1) stands)
  write_at answer (Some shards) found (result, after, did, is_answer, becomes) =
      let there = is_keyspace p scopes old stands keyspace (op_key op) shards found in
      let place = at_place p scopes old stands keyspace (op_key op) shards found in
      let wrote : Writes before table op result after = subst (λ s. Writes s table op result after) (at_primary p scopes old stands keyspace (op_key op) shards found) did in
      let is : new ≡ made after there = becomes ∙ ap (λ n. record old { primaries = with_primary old.primaries keyspace n after }) place in
      subst (λ s. Done answer s) (sym is) (subst (λ a. Done a (made after there)) (sym is_answer) (write_stands after there result wrote))

pub write_steps : Laws → WriteLaws → (scopes : List Scope) (old new : BaseState) (keyspace table : List ℕ) (op : Op) (answer : Answer) → WritesRow old keyspace table op answer new → Steps scopes old (write keyspace table op) answer new
write_steps laws law scopes old new keyspace table op answer did p stands = write_at laws law p scopes old new keyspace table op stands answer (shards_at old.primaries keyspace) refl did

-- ---- a read

module _ (p : Plain) (scopes : List Scope) (old : BaseState) (keyspace table : List ℕ) (key : ℕ) (stands : StandsWith p scopes old) where
  abbrev Told : TabletType → Answer → Type 0
  Told tablet_type answer = Answers p (read keyspace table key tablet_type) answer × StandsWith (next p (read keyspace table key tablet_type) answer) scopes old

  module _ (state : PrimaryState) (is_there : has_keyspace p keyspace ≡ true) (is_state : primary_of old.primaries keyspace (shard_at p keyspace key) ≡ state) where
    in_shard : shard_at p keyspace key < count_of old.primaries keyspace
    in_shard = key_within p old.primaries stands.primaries keyspace is_there key

    has_it : plain.has_table p keyspace table ≡ has_table state table
    has_it = sym (stands.primaries.tables keyspace (shard_at p keyspace key) in_shard table) ∙ ap (λ s. has_table s table) is_state

    denies_it : refuses p keyspace (shard_at p keyspace key) table ≡ is_denied_at state table
    denies_it = sym (stands.primaries.denials keyspace (shard_at p keyspace key) in_shard table) ∙ ap (λ s. is_denied_at s table) is_state

    row_is : plain.has_table p keyspace table ≡ true → row_at state table key ≡ row_of p keyspace table key
    row_is has = ap (λ s. row_at s table key) (sym is_state) ∙ stands.rows.rows keyspace table has key

    abbrev answered : Row → Bool → Bool → TabletType → Answer
    answered r has denied tablet_type = answer_by_read (if has then (if refuses_type denied tablet_type then Err primary.Denied else Ok r) else Err primary.NoTable)

    told : (has denied : Bool) → plain.has_table p keyspace table ≡ has → refuses p keyspace (shard_at p keyspace key) table ≡ denied → (tablet_type : TabletType) → Told tablet_type (answered (row_at state table key) has denied tablet_type)
    told false denied has denies Primary = (rw (is_there, has) refl, stands)
    told false denied has denies Replica = (rw (is_there, has) refl, stands)
    told false denied has denies Rdonly = (rw (is_there, has) refl, stands)
    told true true has denies Primary = (rw (is_there, has, denies) refl, stands)
    told true false has denies Primary = ((rw (is_there, has, denies) refl, ap row (row_is has)), stands)
    told true denied has denies Replica = ((rw (is_there, has) refl, ap row (row_is has)), stands)
    told true denied has denies Rdonly = ((rw (is_there, has) refl, ap row (row_is has)), stands)

  read_told : (tablet_type : TabletType) (o : Option ShardsState) → shards_at old.primaries keyspace ≡ o → Told tablet_type (read_at o table key tablet_type)
  read_told tablet_type None found =
      let absent : has_keyspace p keyspace ≡ false = sym (stands.primaries.there keyspace) ∙ ap is_some found in
      (rw absent refl, stands)
  read_told tablet_type (Some shards) found =
      let state = primary_in shards (place_of_key shards key) in
      let there = is_keyspace p scopes old stands keyspace key shards found in
      let is = sym (at_primary p scopes old stands keyspace key shards found) in
      told state there is (has_table state table) (is_denied_at state table) (has_it state there is) (denies_it state there is) tablet_type

pub read_steps : (scopes : List Scope) (old new : BaseState) (keyspace table : List ℕ) (key : ℕ) (tablet_type : TabletType) (answer : Answer) → ReadsRow old keyspace table key tablet_type answer new
    → Steps scopes old (read keyspace table key tablet_type) answer new
read_steps scopes old new keyspace table key tablet_type answer did p stands =
    subst (λ s. Answers p (read keyspace table key tablet_type) answer × StandsWith (next p (read keyspace table key tablet_type) answer) scopes s) (sym did.1)
    (subst (Told p scopes old keyspace table key stands tablet_type) (sym did.0) (read_told p scopes old keyspace table key stands tablet_type (shards_at old.primaries keyspace) refl))
