-- The test of the bytes so far, and of one more.
use Rattle.std.proofs.Common.{◌≡◌, ◌||◌, subst, rules}
use Rattle.std.proofs.lemmas.Fn.{fronts, slice_gives}
use Rattle.mt_plain.specs.Script.{is_blank, is_readable, is_visible}
use Rattle.mt_script.proofs.AllLemmas.{all_by_fold}
use Rattle.mt_script.proofs.words.are_readable.Goals as goal

pub returns : goal.returns
returns c =
    subst (λ l. c.fold.result ≡ is_readable l) c.iter.ensures.rest
    (all_by_fold fronts (λ y. y.now) _ (λ y. is_blank y || is_visible y) _ (λ a x b f' k. (search rules, search rules)) _ _ _ (slice_gives c.iter.result) c.fold.ensures.ran)
