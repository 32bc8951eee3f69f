-- The tests that `==` computes. Maps compare their keys by them.
use Rattle.std.specs.Prelude.{◌≡◌, Bool}
use Rattle.std.specs.Bool.{Decides}
use Rattle.mt_names.specs.declared.keys.RuleKey.{RuleKey}
use Rattle.mt_names.specs.declared.keys.RuleTarget.{RuleTarget}
use Rattle.mt_names.specs.declared.types.TabletType.{TabletType}
use Rattle.mt_names.specs.declared.types.TypeSet.{TypeSet}
use Rattle.mt_names.specs.contracts.keys.RuleKeyPartialEq.TheImpl as of_key
use Rattle.mt_names.specs.contracts.keys.RuleTargetPartialEq.TheImpl as of_target
use Rattle.mt_names.specs.contracts.types.TabletTypePartialEq.TheImpl as of_type
use Rattle.mt_names.specs.contracts.types.TypeSetPartialEq.TheImpl as of_set

-- of two rule keys, and of two targets; of two names it is `same_text`
abbrev pub same_key : RuleKey → RuleKey → Bool
same_key = of_key.ghosts.eq

abbrev pub same_target : RuleTarget → RuleTarget → Bool
same_target = of_target.ghosts.eq

-- of two tablet types, and of two sets of them
abbrev pub same_type : TabletType → TabletType → Bool
same_type = of_type.ghosts.eq

abbrev pub same_types : TypeSet → TypeSet → Bool
same_types = of_set.ghosts.eq

-- the test holds of equal values and of no others
abbrev pub DecidesEquality : {K : Type 0} → (K → K → Bool) → Type 0
DecidesEquality {K} same = (a b : K) → Decides (same a b) (a ≡ b)
