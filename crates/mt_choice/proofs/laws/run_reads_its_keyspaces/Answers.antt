use Rattle.std.proofs.Common.{ap, ◌∙◌}
use Rattle.mt_choice.specs.Keyspaces.{read_keyspaces}
use Rattle.mt_choice.specs.Meaning.{meaning_of_names, meaning_of_subcommand}
use Rattle.mt_choice.proofs.RunLemmas.{all_of-rows, run-fault, run-subcommand}
use Rattle.mt_choice.proofs.laws.run_reads_its_keyspaces.Goals as goal

pub returns : goal.returns
returns c = λ program words ks is. (
  run-fault program words ks is,
  ap meaning_of_subcommand (run-subcommand program words ks is) ∙ ap (λ names. meaning_of_names (read_keyspaces names)) (all_of-rows ks),
)
