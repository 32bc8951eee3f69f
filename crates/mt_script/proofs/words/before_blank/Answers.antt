-- The lowest mark is that of the first blank.
use Rattle.std.proofs.Common.{take, refl}
use Rattle.std.proofs.lemmas.List.{length-take-le}
use Rattle.std.proofs.lemmas.Simd.{zip2_splat}
use Rattle.mt_script.proofs.BlankLemmas.{blank_found, joined}
use Rattle.mt_script.proofs.words.before_blank.Goals as goal

pub returns-in_default : goal.returns-in_default
returns-in_default c =
    let line = c.args.line.now in
    let front = take 16 line in
    let long = length-take-le 16 line c.requires in
    blank_found line c.requires c.type_inv.line _ _ (joined _ _ _ front (zip2_splat _ front 16 32 long) (zip2_splat _ front 16 9 long)) refl _ refl
