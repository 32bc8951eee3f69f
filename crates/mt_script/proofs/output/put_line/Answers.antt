-- What waited is written first, where there is no room.
use Rattle.std.proofs.Common.{◌≡◌, ◌++◌, rules, ◌∙◌}
use Rattle.std.proofs.lemmas.Result.{err_from_is_err_and}
use Rattle.mt_script.proofs.GoesLemmas.{cut_before, goes_short}
use Rattle.mt_script.proofs.output.put_line.Goals as goal

pub returns-in_err-make_room : goal.returns-in_err-make_room
returns-in_err-make_room g c =
    let p = err_from_is_err_and c.from_residual.result c.from_residual.ensures.1 in
    let same : p.0 ≡ c.in_err-make_room.field-0.0 = search (p.2) in
    let failed = c.in_err-make_room.ensures.writes in
    rw p.1 (same ∙ failed.0, failed.1, cut_before _ _ c.args.waiting.now.items c.args.line.now failed.2)

pub returns : goal.returns
returns g c =
    let extended : c.try_extend_from_slice-fits.new.self.items ≡ c.make_room.new.waiting.items ++ c.args.line.now = search rules in
    rw extended (goes_short _ _ c.args.waiting.now.items c.make_room.new.waiting.items c.args.line.now c.in_ok-make_room.ensures.writes)
