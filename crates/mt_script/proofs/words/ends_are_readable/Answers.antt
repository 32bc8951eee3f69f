-- The first and the last bytes are all of them.
use Rattle.std.proofs.Common.{◌-◌, ◌&&◌, ◌||◌, length, ap, ap₂, ◌∙◌}
use Rattle.std.proofs.lemmas.List.{take_rest}
use Rattle.mt_plain.specs.Script.{is_blank, is_readable, is_visible}
use Rattle.mt_script.proofs.AllLemmas.{all_by_ends}
use Rattle.mt_script.proofs.words.ends_are_readable.Goals as goal

pub returns : goal.returns
returns g c =
    let line = c.args.line.now in
    ap₂ (λ a b. a && b) c.are_readable.ensures (c.are_readable-2.ensures ∙ ap is_readable (take_rest line (length line - g.row.N)))
    ∙ all_by_ends (λ byte. is_blank byte || is_visible byte) g.row.N line c.requires.long c.requires.short
