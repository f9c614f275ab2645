-- Registers that follow one another are among the first ones exactly if the last of them is.
use Rattle.std.proofs.Common.{ℕ, ◌+◌, ◌<◌, ◌≤◌, zero, suc, arith}
use Rattle.std.specs.List.{AllByRecursion, range_with_len}

pub run_among : (count first n : ℕ) → first + n ≤ count → AllByRecursion (λ v. v < count) (range_with_len first n)
run_among count first zero l = tt
run_among count first (suc n) l = (omega (arith, l), run_among count (first + 1) n (omega (arith, l)))

pub run_below : (count first n : ℕ) → 0 < n → AllByRecursion (λ v. v < count) (range_with_len first n) → first + n ≤ count
run_below count first zero l h = absurd (omega arith)
run_below count first (suc zero) l h = let a = h.0 in omega (arith, a)
run_below count first (suc (suc n)) l h = let r = run_below count (first + 1) (suc n) (omega arith) h.1 in omega (arith, r)
