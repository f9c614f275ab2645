-- The greatest of registers that follow one another is the last of them.
use Rattle.std.proofs.Common.{◌≡◌, ℕ, ◌+◌, ◌-◌, ◌<◌, zero, suc, Some, sym, ap, subst, ◌∙◌, arith, max}
use Rattle.std.specs.List.{fold, range_with_len, reduce}
use Rattle.std.proofs.Math.Nat.{max-eq_right}

last_of_run : (a n : ℕ) → fold max a (range_with_len (a + 1) n) ≡ a + n
last_of_run a zero = omega arith
last_of_run a (suc n) =
    let e : a + 1 + n ≡ a + suc n = omega arith in
    subst (λ (m : ℕ). fold max m (range_with_len (a + 1 + 1) n) ≡ a + suc n) (sym (max-eq_right (omega arith))) (last_of_run (a + 1) n ∙ e)

pub last_named : (first n : ℕ) → 0 < n → Some (first + n - 1) ≡ reduce max (range_with_len first n)
last_named first zero l = absurd (omega arith)
last_named first (suc n) l =
    let e : first + suc n - 1 ≡ first + n = omega arith in
    ap (λ (m : ℕ). Some m) (e ∙ sym (last_of_run first n))
