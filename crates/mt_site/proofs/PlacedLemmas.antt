-- What is written at the primary of a key's shard, of the keyspace at a place, is written at that of the keyspace.
use Rattle.std.proofs.Common.{◌≡◌, ◌<◌, ℕ, List, Option, None, Some, Result, cond, Bool, true, false, refl, sym, ap, subst, ◌∙◌}
use Rattle.mt_event.specs.Reasons.{reason_by_primary, reason_from}
use Rattle.mt_model.specs.declared.faults.PrimaryFault.{PrimaryFault}
use Rattle.mt_model.specs.declared.faults.PrimaryFault.TheVariants as fault
use Rattle.mt_model.specs.declared.rows.Op.{Op}
use Rattle.mt_model.specs.Rows.{Row, op_key}
use Rattle.mt_model.specs.Topology.{TopologyState}
use Rattle.mt_names.specs.declared.types.TabletType.{TabletType}
use Rattle.mt_names.specs.Shards.{shard_of}
use Rattle.mt_plain.specs.Events.{Answer, done, refused}
use Rattle.mt_primary.proofs.PrimariesLemmas.{cuts-with_primary, found_shards, with_primary-here, with_primary-twice}
use Rattle.mt_primary.specs.Places.{IsAt}
use Rattle.mt_primary.specs.Primaries.{Primaries, ShardsState, count_of, place_of_key, primary_in, primary_of, shards_at, shards_of, with_primary}
use Rattle.mt_primary.specs.Primary.{PrimaryState}
use Rattle.mt_primary.specs.Reads.{read_row}
use Rattle.mt_primary.specs.Writes.{Writes}
use Rattle.mt_stands.specs.Answers.{answer_by, refusal_by}
use Rattle.mt_stands.specs.ByHand.{WritesAt, WritesRow, answer_by_read, read_at}
use Rattle.mt_stands.specs.Base.{BaseState, Workflows}
use Rattle.mt_stands.specs.Purges.{PurgesOne, has_whole_segments, with_purge_of, without_unneeded}
use Rattle.mt_moves.proofs.PrimaryLemmas.{there-or-not}

-- a refusal of a primary, as the core tells it
pub refused_there : (f : PrimaryFault) → refused (reason_from (reason_by_primary f)) ≡ refused (refusal_by f)
refused_there fault.Memory = refl
refused_there fault.NoTable = refl
refused_there fault.Denied = refl
refused_there fault.RowExists = refl
refused_there fault.NoRow = refl
refused_there fault.TooLong = refl
refused_there fault.LogFull = refl
refused_there fault.Purged = refl

-- the keyspace at a place has its shards
pub shards_there : (ps : Primaries) (k : List ℕ) (place : ℕ) → IsAt ps k place → shards_at ps k ≡ Some (shards_of ps k)
shards_there ps k place at = found_shards ps k (sym (there-or-not ps k (Some place) at))

-- a read at the primary of a key's shard, at the place of the keyspace
pub read_there : (ps : Primaries) (k table : List ℕ) (key : ℕ) (type : TabletType) (place : ℕ) → IsAt ps k place → (r : Result Row PrimaryFault) → r ≡ read_row (primary_of ps k (place_of_key (shards_of ps k) key)) table key type
    → answer_by_read r ≡ read_at (shards_at ps k) table key type
read_there ps k table key type place at r is = ap answer_by_read is ∙ sym (ap (λ o. read_at o table key type) (shards_there ps k place at))

-- a core, of its parts
abbrev pub core_of : TopologyState → Primaries → Workflows → BaseState
core_of t ps ws = record { topology = t; primaries = ps; workflows = ws }

module _ (t : TopologyState) (ws : Workflows) (ps : Primaries) (k table : List ℕ) (op : Op) (n : ℕ) (before after : PrimaryState) (key : n ≡ place_of_key (shards_of ps k) (op_key op)) where
  pub written_there : (place : ℕ) → IsAt ps k place → before ≡ primary_of ps k n → (result : Result ℕ PrimaryFault) (answer : Answer) → Writes before table op result after → answer ≡ answer_by result
      → WritesRow (core_of t ps ws) k table op answer (core_of t (with_primary ps k n after) ws)
  written_there place at there result answer writes told =
      let found : before ≡ primary_in (shards_of ps k) (place_of_key (shards_of ps k) (op_key op)) = there ∙ ap (primary_in (shards_of ps k)) key in
      subst (λ o. WritesAt o (core_of t ps ws) k table op answer (core_of t (with_primary ps k n after) ws)) (sym (shards_there ps k place at))
      (result, after, subst (λ p. Writes p table op result after) found writes, told, ap (λ m. core_of t (with_primary ps k m after) ws) key)

  -- the log that is written is purged as a segment gets whole
  pub purged_there : n < count_of ps k → (last : PrimaryState) → last ≡ cond (has_whole_segments after) (without_unneeded ws k n after) after
      → PurgesOne k (place_of_key (shards_of (with_primary ps k n after) k) (op_key op)) done (core_of t (with_primary ps k n after) ws) (core_of t (with_primary ps k n last) ws)
  purged_there below last is =
      subst (λ m. PurgesOne k m done made (core_of t (with_primary ps k n last) ws)) (key ∙ ap (λ cuts. shard_of cuts (op_key op)) (sym (cuts-with_primary ps k n after k)))
      (ap (λ x. core_of t (with_primary ps k n x) ws) is ∙ by (has_whole_segments after) ∙ ap (λ b. cond b (with_purge_of k n made) made) (ap has_whole_segments (sym now)))
    where
      made : BaseState
      made = core_of t (with_primary ps k n after) ws

      now : primary_of (with_primary ps k n after) k n ≡ after
      now = with_primary-here ps k n after below

      by : (b : Bool) → core_of t (with_primary ps k n (cond b (without_unneeded ws k n after) after)) ws ≡ cond b (with_purge_of k n made) made
      by true =
          let last = without_unneeded ws k n after in
          ap (λ l. core_of t l ws) (sym (with_primary-twice ps k n after last) ∙ ap (λ p. with_primary (with_primary ps k n after) k n (without_unneeded ws k n p)) (sym now))
      by false = refl

-- a write leaves the topology
pub row_leaves_topology : (old new : BaseState) (keyspace table : List ℕ) (op : Op) (answer : Answer) → WritesRow old keyspace table op answer new → new.topology ≡ old.topology
row_leaves_topology old new keyspace table op answer = by (shards_at old.primaries keyspace)
  where
    by : (o : Option ShardsState) → WritesAt o old keyspace table op answer new → new.topology ≡ old.topology
    by None is = let topology_of : BaseState → TopologyState = λ core. core.topology in ap topology_of is.1
    by (Some shards) (result, after, writes, told, made) = let topology_of : BaseState → TopologyState = λ core. core.topology in ap topology_of made
