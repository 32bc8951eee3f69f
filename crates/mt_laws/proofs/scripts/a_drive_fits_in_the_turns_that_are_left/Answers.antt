-- How many turns are enough was counted for each drive.
use Rattle.std.proofs.Common.{arith}
use Rattle.mt_laws.proofs.DriveLemmas.{fits-turns, heard-fits}
use Rattle.mt_laws.proofs.scripts.a_drive_fits_in_the_turns_that_are_left.Goals as goal

pub returns : goal.returns
returns c = record { begins = λ p workflow types backward. omega arith; goes_on = heard-fits; never_runs_out = fits-turns }
