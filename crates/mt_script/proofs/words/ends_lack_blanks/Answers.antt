-- The first and the last bytes are all of them.
use Rattle.std.proofs.Common.{◌-◌, ◌&&◌, length, not, ap, ap₂, ◌∙◌}
use Rattle.std.proofs.lemmas.List.{take_rest}
use Rattle.std.specs.List.{list_all}
use Rattle.mt_plain.specs.Script.{is_blank}
use Rattle.mt_script.proofs.AllLemmas.{all_by_ends}
use Rattle.mt_script.proofs.words.ends_lack_blanks.Goals as goal

pub returns : goal.returns
returns g c =
    let word = c.args.word.now in
    ap₂ (λ a b. a && b) c.lack_blanks.ensures (c.lack_blanks-2.ensures ∙ ap (list_all (λ byte. not (is_blank byte))) (take_rest word (length word - g.row.N)))
    ∙ all_by_ends (λ byte. not (is_blank byte)) g.row.N word c.requires.long c.requires.short
