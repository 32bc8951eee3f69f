-- How the rules that a workflow keeps are gathered.
use Rattle.std.specs.Prelude.{◌≡◌, List, fold}
use Rattle.indexmap.specs.IndexMap.{insert_entry}
use Rattle.mt_names.specs.declared.keys.RuleKey.{RuleKey}
use Rattle.mt_names.specs.Same.{same_key}
use Rattle.mt_model.specs.Topology.{Rules, rule_at}

-- what is kept, with some keys more, each with the rule that stands there (this profile's own)
abbrev pub with_kept : Rules → Rules → List RuleKey → Rules
with_kept rules kept keys = fold (λ entries key. insert_entry same_key entries key (rule_at rules key)) kept keys

-- some rules say the same of each key as others (this profile's own)
abbrev pub Agrees : Rules → Rules → Type 0
Agrees rules others = (key : RuleKey) → rule_at rules key ≡ rule_at others key
