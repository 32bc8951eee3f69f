-- First what waits, then the document, then its line feed.
use Rattle.std.proofs.Common.{◌≡◌, ◌++◌, [], ◌∙◌}
use Rattle.std.proofs.lemmas.Result.{err_from_is_err_and}
use Rattle.mt_plain.specs.Output.{line_feed}
use Rattle.mt_script.specs.Bytes.{GoesOut}
use Rattle.mt_script.proofs.GoesLemmas.{cut_before, cut_behind, goes_behind, writes_behind}
use Rattle.mt_script.proofs.output.put_document.Goals as goal

pub returns-in_err-flush : goal.returns-in_err-flush
returns-in_err-flush g c =
    let p = err_from_is_err_and c.from_residual.result c.from_residual.ensures.1 in
    let same : p.0 ≡ c.in_err-flush.field-0.0 = search (p.2) in
    let failed = c.in_err-flush.ensures.writes in
    rw p.1 (same ∙ failed.0, failed.1, cut_before _ _ (c.args.waiting.now.items ++ c.args.text.now) line_feed (cut_before _ _ c.args.waiting.now.items c.args.text.now failed.2))

pub returns-in_err-write_all : goal.returns-in_err-write_all
returns-in_err-write_all g c =
    let p = err_from_is_err_and c.from_residual-in_err-write_all.result c.from_residual-in_err-write_all.ensures.1 in
    let same : p.0 ≡ c.in_err-write_all.field-0.0 = search (p.2) in
    let failed = c.in_err-write_all.ensures in
    let flushed : GoesOut _ _ c.args.waiting.now.items [] = rw c.flush.ensures.empty at c.in_ok-flush.ensures.writes in
    rw p.1 (same ∙ failed.0, c.flush.ensures.empty, cut_before _ _ (c.args.waiting.now.items ++ c.args.text.now) line_feed (cut_behind _ _ _ c.args.waiting.now.items c.args.text.now flushed failed.2))

pub returns : goal.returns
returns g c =
    let flushed : GoesOut _ _ c.args.waiting.now.items [] = rw c.flush.ensures.empty at c.in_ok-flush.ensures.writes in
    writes_behind _ _ _ (c.args.waiting.now.items ++ c.args.text.now) line_feed (goes_behind _ _ _ c.args.waiting.now.items c.args.text.now flushed [] c.in_ok-write_all.ensures) c.put_line.new.waiting.items c.put_line.result
    (rw c.flush.ensures.empty at c.put_line.ensures)
