-- What Create makes of the table is pushed, in the order of its keys.
use Rattle.std.proofs.Common.{true, [], ◌∷◌, ◌++◌, ap, ◌∙◌}
use Rattle.std.proofs.lemmas.Result.{on_ok_weaker}
use Rattle.mt_model.specs.declared.entries.Entry.{Entry}
use Rattle.mt_model.specs.declared.entries.Entry.TheVariants as entry
use Rattle.mt_moves.proofs.WriteLemmas.{pushed, table_pushed}
use Rattle.mt_moves.proofs.asking.push_table.Goals as goal

pub returns : goal.returns
returns c =
    let w = c.args.workflow.now in
    let n = c.args.table.now in
    let g = c.target-target.result.now in
    let d = c.push_name-3.new.change in
    let e = c.push.new.self in
    let mark = c.is_denied_at-is_denied.result in
    let denied = ap (λ k. entry.Denied k c.copied-2.result mark) c.copied.ensures ∙ ap (λ t. entry.Denied g t mark) c.copied-2.ensures ∙ ap (λ m. entry.Denied g n m) c.is_denied_at-is_denied.ensures in
    let present = ap (λ k. entry.Present k c.copied-4.result true) c.copied-3.ensures ∙ ap (λ t. entry.Present g t true) c.copied-4.ensures in
    on_ok_weaker c.push-2.result
    (λ is. table_pushed w c.args.change.now c.push_name.new.change c.push_name-2.new.change d e c.push-2.new.self c.source-source.result.now g n c.source-source.ensures c.target-target.ensures
    c.in_ok-push_name.ensures c.in_ok-push_name-2.ensures c.in_ok-push_name-3.ensures (c.in_ok-push.ensures ∙ ap (λ (x : Entry). d ++ x ∷ []) denied) (is ∙ ap (λ (x : Entry). e ++ x ∷ []) present))
    (pushed e c.push-2.new.self (entry.Present c.copied-3.result c.copied-4.result true) c.push-2.result c.push-2.ensures)
