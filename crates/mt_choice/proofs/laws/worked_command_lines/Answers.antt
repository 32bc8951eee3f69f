-- Computed.
use Rattle.std.proofs.Common.{refl}
use Rattle.clap.proofs.OnLiterals.{clap_on_literals}
use Rattle.mt_choice.proofs.laws.worked_command_lines.Goals as goal

pub returns : goal.returns
unfolding clap_on_literals
returns c = record {
  rules = (refl, refl);
  topology = (refl, refl);
  race = (refl, refl);
  most = (refl, refl);
  too_many_clients = (refl, refl);
  no_words = refl;
  help = refl;
  more_words = refl;
}
