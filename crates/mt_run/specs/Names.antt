-- Names that lead where it is kept that they lead.
use Rattle.std.specs.Prelude.{◌≡◌, ℕ, List, None, Some, Ok}
use Rattle.std.specs.Map.{lookup}
use Rattle.mt_names.specs.declared.keys.RuleKey.{RuleKey}
use Rattle.mt_names.specs.declared.types.TabletType.TheVariants.{Primary}
use Rattle.mt_names.specs.Names.{IsTableName, same_text}
use Rattle.mt_model.specs.Topology.{TopologyState, resolution}
use Rattle.mt_site.specs.declared.controller.placed.Place.{Place}

-- a table's name alone, as a key
abbrev pub plain_key : List ℕ → RuleKey
plain_key table = record { keyspace = None; table = table; tablet_type = None }

-- it is a table's name, which leads there for the primary
pub record LeadsTo (t : TopologyState) (name : List ℕ) (place : Place) : Type 0 where
  pub is_name : IsTableName name
  pub leads : resolution t (plain_key name) Primary ≡ Ok place.target

-- each name leads where it is kept that it does
pub record LeadThere (t : TopologyState) (kept : List (List ℕ × Place)) : Type 0 where
  pub each : (name : List ℕ) (place : Place) → lookup (same_text name) kept ≡ Some place → LeadsTo t name place
