-- The way is kept last, with the next number.
use Rattle.std.proofs.Common.{ℕ, ◌+◌, [], ◌∷◌, ◌++◌, add-one, ap, ◌∙◌}
use Rattle.mt_stands.specs.Ways.{OpenWays}
use Rattle.mt_steps.specs.Undo.{new_log}
use Rattle.mt_moves.proofs.BeginLemmas.{way_pushed}
use Rattle.mt_moves.proofs.beginning.open_way.Goals as goal

pub returns-in-Ok-insert : goal.returns-in-Ok-insert
returns-in-Ok-insert c =
    let w = c.args.workflow.now in
    let begun = c.args.begun.now in
    let with_number : ℕ → OpenWays = λ n. c.args.opened.now.entries ++ (w.name, record { number = n; log = new_log w }) ∷ [] in (
      c.set_way.ensures.after,
      c.in-Ok-insert.ensures.entries
          ∙ way_pushed c.args.opened.now w c.copied.result (begun + 1) c.in-Ok.log (c.copied.ensures ∙ c.name.ensures) c.in-Ok.ensures.value c.requires.absent
          ∙ ap with_number (add-one begun),
      add-one begun,
    )
