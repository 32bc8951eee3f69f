-- The test of the bytes so far, and of one more.
use Rattle.std.proofs.Common.{◌≡◌, not, subst, rules}
use Rattle.std.proofs.lemmas.Fn.{fronts, slice_gives}
use Rattle.std.specs.List.{list_all}
use Rattle.mt_plain.specs.Script.{is_blank}
use Rattle.mt_script.proofs.AllLemmas.{all_by_fold}
use Rattle.mt_script.proofs.words.lack_blanks.Goals as goal

pub returns : goal.returns
returns c =
    subst (λ l. c.fold.result ≡ list_all (λ byte. not (is_blank byte)) l) c.iter.ensures.rest
    (all_by_fold fronts (λ y. y.now) _ (λ y. not (is_blank y)) _ (λ a x b f' k. (search rules, search rules)) _ _ _ (slice_gives c.iter.result) c.fold.ensures.ran)
