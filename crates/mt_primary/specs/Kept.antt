-- How the primaries are kept.
use Rattle.std.specs.Prelude.{◌≡◌, ℕ, List, length}
use Rattle.std.specs.List.{IsDistinct}
use Rattle.mt_names.specs.Names.{same_text}
use Rattle.mt_primary.specs.Primaries.{ShardsState}

-- each keyspace has one name, and its shards at the same place
pub record AreKept (names : List (List ℕ)) (shards : List ShardsState) : Type 0 where
  pub long : length shards ≡ length names
  pub distinct : IsDistinct same_text names
