-- By induction on the turns: two steps may be tried again, and each is done or undone once.
use Rattle.std.proofs.Common.{◌≡◌, arith, refl, subst, sym}
use Rattle.mt_plain.specs.Answers.{Answers}
use Rattle.mt_plain.specs.Drive.{begins, most_turns}
use Rattle.mt_laws.proofs.DriveLemmas.{drive_ends, drive_fits}
use Rattle.mt_laws.proofs.scripts.drives_end_within_their_turns.Goals as goal

pub returns : goal.returns
returns c = record {
  however_answered = λ pick each p workflow types backward.
      drive_ends (λ q event answer. answer ≡ pick q event) (λ q event answer is. subst (Answers q event) (sym is) (each q event)) (λ q event. (pick q event, refl))
      most_turns p (begins workflow types backward) (omega arith);
  within_its_turns = λ p workflow types backward turns result left drove.
      drive_fits (λ ended q. (ended ≡ result) × (q ≡ left)) turns most_turns p (begins workflow types backward) (omega arith) drove;
}
