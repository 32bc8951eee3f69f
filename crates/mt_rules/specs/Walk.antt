-- Places as they are listed, and the first of some keys behind another.
use Rattle.std.specs.Prelude.{ℕ, List, Option, None, Some, ◌&&◌, Bool, true, if◌then◌else◌, fold, option_copied}
use Rattle.std.specs.Borrow.{Bor}
use Rattle.mt_names.specs.declared.types.TabletType.{TabletType}
use Rattle.mt_names.specs.declared.keys.RuleKey.{RuleKey}
use Rattle.mt_names.specs.declared.keys.RuleTarget.{RuleTarget}
use Rattle.mt_model.specs.Order.{key_before}
use Rattle.mt_model.specs.Topology.{Rules}
use Rattle.mt_rules.specs.Places.{is_after, key_of}
use Rattle.mt_rules.specs.declared.walk.Listed.{Listed}

-- the key and what its place has
abbrev pub listed_entry : Listed → RuleKey × Option RuleTarget
listed_entry place = (key_of place.name.now place.tablet_type, place.rule.now)

-- the key of these parts
abbrev pub key_of_parts : Option TabletType × Option (Bor (List ℕ)) × Bor (List ℕ) → RuleKey
key_of_parts parts = record { keyspace = option_copied parts.1; table = parts.2.now; tablet_type = parts.0 }

-- a key comes before the one that was found, or none was
abbrev pub is_nearer : RuleKey → Option RuleKey → Bool
is_nearer key None = true
is_nearer key (Some next) = key_before key next

-- what is found of the first key after another, with one key more that has a place
abbrev pub nearer : Option RuleKey → Option RuleKey → RuleKey → Option RuleKey
nearer last next key = if is_after last key && is_nearer key next then Some key else next

-- the same with the keys of some places
abbrev pub nearest : Option RuleKey → Option RuleKey → Rules → Option RuleKey
nearest last next rules = fold (λ found r. nearer last found r.0) next rules
