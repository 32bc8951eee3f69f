-- The texts go out one behind the other, and then the line feed.
use Rattle.std.proofs.Common.{◌≡◌, ◌++◌, [], refl, ◌∙◌}
use Rattle.std.proofs.lemmas.Result.{err_from_is_err_and}
use Rattle.mt_plain.specs.Output.{line_feed}
use Rattle.mt_script.proofs.GoesLemmas.{cut_before, cut_behind, goes_behind, writes_behind}
use Rattle.mt_script.proofs.output.write_line.Goals as goal

pub returns-in_err-write_all : goal.returns-in_err-write_all
returns-in_err-write_all g c =
    let p = err_from_is_err_and c.from_residual.result c.from_residual.ensures.1 in
    let same : p.0 ≡ c.in_err-write_all.field-0.0 = search (p.2) in
    let failed = c.in_err-write_all.ensures in
    rw p.1 (same ∙ failed.0, refl, cut_before _ _ (c.args.first.now ++ c.args.second.now) line_feed (cut_before _ _ c.args.first.now c.args.second.now failed.2))

pub returns-in_err-write_all-2 : goal.returns-in_err-write_all-2
returns-in_err-write_all-2 g c =
    let p = err_from_is_err_and c.from_residual-in_err-write_all-2.result c.from_residual-in_err-write_all-2.ensures.1 in
    let same : p.0 ≡ c.in_err-write_all-2.field-0.0 = search (p.2) in
    let failed = c.in_err-write_all-2.ensures in
    rw p.1 (same ∙ failed.0, refl, cut_before _ _ (c.args.first.now ++ c.args.second.now) line_feed (cut_behind _ _ _ c.args.first.now c.args.second.now c.in_ok-write_all.ensures failed.2))

pub returns : goal.returns
returns g c =
    writes_behind _ _ _ (c.args.first.now ++ c.args.second.now) line_feed (goes_behind _ _ _ c.args.first.now c.args.second.now c.in_ok-write_all.ensures [] c.in_ok-write_all-2.ensures) [] c.write_all-3.result c.write_all-3.ensures
