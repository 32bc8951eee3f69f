use Rattle.mt_laws.proofs.CopyLemmas.{read_copied, read_uncopied}
use Rattle.mt_laws.proofs.copies.the_other_side_answers_by_the_writes_that_were_fed.Goals as goal

pub returns : goal.returns
returns c = record { copied = read_copied; elsewhere = read_uncopied }
