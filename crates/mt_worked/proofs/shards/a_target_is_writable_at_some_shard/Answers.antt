use Rattle.std.proofs.Common.{◌≡◌, ℕ, ◌<◌, zero, suc, false, refl, arith}
use Rattle.std.proofs.lemmas.Bool.{true≢false}
use Rattle.mt_plain.specs.Serve.{refuses}
use Rattle.mt_worked.specs.Shards.{both_closed}
use Rattle.mt_worked.specs.States.{corder, customer}
use Rattle.mt_worked.proofs.shards.a_target_is_writable_at_some_shard.Goals as goal

pub returns-clause-at_its_first_shard : goal.returns-clause-at_its_first_shard
returns-clause-at_its_first_shard c = (refl, (0, omega arith, refl))

pub returns-clause-at_its_last_shard : goal.returns-clause-at_its_last_shard
returns-clause-at_its_last_shard c = (refl, (1, omega arith, refl))

pub returns-clause-at_no_shard : goal.returns-clause-at_no_shard
returns-clause-at_no_shard c = λ writable. by writable.1.0 writable.1.1 writable.1.2
  where
    by : (shard : ℕ) → shard < 2 → refuses both_closed customer shard corder ≡ false → ⊥
    by zero lt e = true≢false e
    by (suc zero) lt e = true≢false e
    by (suc (suc n)) lt e = absurd (omega arith)
