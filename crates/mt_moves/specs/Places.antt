-- Primaries by the places of their keyspaces.
use Rattle.std.specs.Prelude.{ℕ, zero, suc, List, [], ◌∷◌}
use Rattle.mt_primary.specs.Primaries.{Primaries, ShardsState}
use Rattle.mt_stands.specs.Base.{Workflows}
use Rattle.mt_stands.specs.Purges.{purged_from}

-- the logs of a keyspace's primaries are purged
abbrev pub purged_shards : Workflows → List ℕ × ShardsState → List ℕ × ShardsState
purged_shards workflows entry = (entry.0, record { cuts = entry.1.cuts; each = purged_from workflows entry.0 0 entry.1.each })

-- those of the keyspace at a place are
abbrev pub with_purge_at : Workflows → (place : ℕ) → Primaries → Primaries
with_purge_at workflows place [] = []
with_purge_at workflows zero (entry ∷ entries) = purged_shards workflows entry ∷ entries
with_purge_at workflows (suc place) (entry ∷ entries) = entry ∷ with_purge_at workflows place entries
