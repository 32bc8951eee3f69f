-- A run, and one event more.
use Rattle.mt_laws.proofs.AllWritesLemmas.{reached_next}
use Rattle.mt_laws.proofs.InPlaceLemmas.{opening_reached, run_reached}
use Rattle.mt_laws.proofs.reached.each_next_state_is_reached.Goals as goal

pub returns : goal.returns
returns c = record {
  opening = opening_reached;
  next = λ p reached event answer given. reached_next p event answer reached given;
  run = run_reached;
}
