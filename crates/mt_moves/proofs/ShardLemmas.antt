-- The shards of a workflow's target, one after the other.
use Rattle.std.proofs.Common.{◌≡◌, ℕ, ◌+◌, ◌<◌, ◌≤◌, Bool, true, false, fold, get_or, take, sym, ap, ◌∙◌, arith}
use Rattle.std.specs.Prelude.{◌&&◌}
use Rattle.std.proofs.lemmas.List.{take_all}
use Rattle.std.proofs.lemmas.List.Folds.{list_all_at, list_all_more}
use Rattle.std.proofs.lemmas.List.FromFn.{get_or-range_with_len, length-range_with_len}
use Rattle.std.proofs.lemmas.List.Sums.{fold_more}
use Rattle.std.specs.List.{list_all, range_with_len}

module _ (f : ℕ → ℕ → ℕ) (a n : ℕ) where
  pub fold_next : (i : ℕ) → i < n → fold f a (take (i + 1) (range_with_len 0 n)) ≡ f (fold f a (take i (range_with_len 0 n))) i
  fold_next i lt =
      fold_more f a (range_with_len 0 n) i 0 (let l = length-range_with_len 0 n in omega arith)
      ∙ ap (f (fold f a (take i (range_with_len 0 n)))) (get_or-range_with_len 0 n i 0 lt ∙ omega arith)

  pub fold_all : (i : ℕ) → n ≤ i → fold f a (take i (range_with_len 0 n)) ≡ fold f a (range_with_len 0 n)
  fold_all i le = ap (fold f a) (take_all i (range_with_len 0 n) (let l = length-range_with_len 0 n in omega arith))

module _ (test : ℕ → Bool) (n : ℕ) where
  pub all_more : (i : ℕ) → i < n → list_all test (take i (range_with_len 0 n)) ≡ true → test i ≡ true → list_all test (take (i + 1) (range_with_len 0 n)) ≡ true
  all_more i lt before here =
      list_all_more test (range_with_len 0 n) i 0 (let l = length-range_with_len 0 n in omega arith)
      ∙ ap (λ b. b && test (get_or (range_with_len 0 n) i 0)) before ∙ ap test (get_or-range_with_len 0 n i 0 lt ∙ omega arith) ∙ here

  pub one_fails : (i : ℕ) → i < n → test i ≡ false → list_all test (range_with_len 0 n) ≡ false
  one_fails i lt here =
      list_all_at test (range_with_len 0 n) i 0 (let l = length-range_with_len 0 n in omega arith) (ap test (get_or-range_with_len 0 n i 0 lt ∙ omega arith) ∙ here)

  pub all_tested : (i : ℕ) → n ≤ i → list_all test (take i (range_with_len 0 n)) ≡ true → list_all test (range_with_len 0 n) ≡ true
  all_tested i le before = ap (list_all test) (sym (take_all i (range_with_len 0 n) (let l = length-range_with_len 0 n in omega arith))) ∙ before
