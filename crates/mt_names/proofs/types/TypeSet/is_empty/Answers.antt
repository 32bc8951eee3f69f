-- No type is in the set just where none of the three fields is true.
use Rattle.std.proofs.Common.{◌≡◌, false, arith}
use Rattle.std.proofs.lemmas.Grind.{common_steps}
use Rattle.mt_names.specs.declared.types.TabletType.TheVariants.{Primary, Replica, Rdonly}
use Rattle.mt_names.proofs.TypeLemmas.{has_none}
use Rattle.mt_names.proofs.types.TypeSet.is_empty.Goals as goal

pub returns : goal.returns
returns c =
    let set = c.args.self in (
      λ empty. has_none set (grind (arith, common_steps)) (grind (arith, common_steps)) (grind (arith, common_steps)),
      λ none. let p : set.primary ≡ false = none Primary in let q : set.replica ≡ false = none Replica in let r : set.rdonly ≡ false = none Rdonly in grind (arith, common_steps),
    )
