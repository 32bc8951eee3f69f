-- They were sorted by client.
use Rattle.std.proofs.Common.{ℕ, rules}
use Rattle.std.proofs.lemmas.List.Sorted.{IsNonDecreasingBy-from_sort_by_key}
use Rattle.mt_desk.proofs.account.counted_by_client.Goals as goal

pub returns-clause-order : goal.returns-clause-order
returns-clause-order g c = IsNonDecreasingBy-from_sort_by_key (λ (count : ℕ × ℕ). count.0) _ c.sort_unstable_by_key.ensures.sorted (λ a r q k. search rules)
