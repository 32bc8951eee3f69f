use Rattle.std.proofs.Common.{◌≡◌, ℕ, ◌<◌, zero, suc, false, arith}
use Rattle.std.proofs.lemmas.Bool.{true≢false}
use Rattle.mt_plain.specs.Serve.{refuses}
use Rattle.mt_worked.specs.States.{commerce, corder, refreshed}
use Rattle.mt_worked.proofs.histories.one_side_is_writable.Goals as goal

pub returns-clause-no_side_behind_the_refresh : goal.returns-clause-no_side_behind_the_refresh
returns-clause-no_side_behind_the_refresh c = λ writable. by writable.1.0 writable.1.1 writable.1.2
  where
    by : (shard : ℕ) → shard < 1 → refuses refreshed commerce shard corder ≡ false → ⊥
    by zero lt e = true≢false e
    by (suc n) lt e = absurd (omega arith)
