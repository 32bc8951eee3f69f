-- Two lists of keys of entries are equal in at most one way.
use Rattle.std.proofs.Common.{List}
use Rattle.std.proofs.Props.{props}
use Rattle.mt_names.specs.declared.keys.RuleKey.{RuleKey}
use Rattle.mt_names.specs.declared.types.TabletType.{TabletType}
use Rattle.mt_model.specs.declared.entries.EntryKey.{EntryKey}

type_set : IsSet TabletType
type_set = hlevel props

rule_key_set : IsSet RuleKey
rule_key_set = hlevel (type_set, props)

entry_key_set : IsSet EntryKey
entry_key_set = hlevel (rule_key_set, props)

pub keys_set : IsSet (List EntryKey)
keys_set = hlevel (entry_key_set, props)
