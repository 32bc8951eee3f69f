use Rattle.std.proofs.Common.{map, ap, sym, refl, ◌∙◌, codes}
use Rattle.clap.specs.Words.{found_of}
use Rattle.mt_choice.specs.Keyspaces.{read_keyspaces}
use Rattle.mt_choice.specs.Meaning.{meaning_of_names}
use Rattle.mt_choice.proofs.ChoiceLemmas.{words_there}
use Rattle.mt_choice.proofs.reading.run.Goals as goal

pub returns-in-Ok : goal.returns-in-Ok
returns-in-Ok c =
    let are = ap (λ b. map (λ v. v.now) b.now) c.unwrap_or.ensures ∙ words_there (found_of c.args.matches.now) (codes "KEYSPACE") c.get_strs.result _ refl c.get_strs.ensures in
    ap (λ ws. meaning_of_names (read_keyspaces ws)) (sym are) ∙ ap meaning_of_names (sym c.in-Ok.ensures)

pub returns-in-Err : goal.returns-in-Err
returns-in-Err c =
    let are = ap (λ b. map (λ v. v.now) b.now) c.unwrap_or.ensures ∙ words_there (found_of c.args.matches.now) (codes "KEYSPACE") c.get_strs.result _ refl c.get_strs.ensures in
    ap (λ ws. meaning_of_names (read_keyspaces ws)) (sym are) ∙ ap meaning_of_names (sym c.in-Err.ensures)
