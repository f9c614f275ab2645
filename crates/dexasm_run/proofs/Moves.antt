-- Two reads, or two writes, in a row.
use Rattle.std.proofs.Common.{◌≡◌, ℕ, ◌+◌, List, ◌++◌, Option, None, Some, take, drop, sym, ap, ◌∙◌, append_assoc, Bool, true, ◌||◌, ◌&&◌, ◌==◌, nat_lt, ◌<◌, arith}
use Rattle.std.specs.Io.KnownBytes.{Appends, Consumes}
use Rattle.std.proofs.Math.Seq.{take-add}
use Rattle.std.proofs.lemmas.Bool.Decides.{nat_tests}

-- the front of a list was written, and then n more
pub Appends-more : (a b c : Option (List ℕ)) (all : List ℕ) (done n : ℕ) → Appends a b (take done all)
    → Appends b c (take n (drop done all)) → Appends a c (take (done + n) all)
Appends-more None b c all done n p q = tt
Appends-more (Some x) None c all done n p q = absurd p
Appends-more (Some x) (Some y) None all done n p q = absurd q
Appends-more (Some x) (Some y) (Some z) all done n p q =
    q ∙ ap (λ l. l ++ take n (drop done all)) p ∙ append_assoc x _ _
    ∙ ap (λ l. x ++ l) (sym (take-add done n all))

-- a read of nothing after the bytes given
pub Consumes-end : (a b c : Option (List ℕ)) (given piece : List ℕ) (n : ℕ) → n ≡ 0 → Consumes a b given
    → Consumes b c (take n piece) → Consumes a c given
Consumes-end None b c given piece n e p q = tt
Consumes-end (Some x) None c given piece n e p q = absurd p
Consumes-end (Some x) (Some y) None given piece n e p q = absurd q
Consumes-end (Some x) (Some y) (Some z) given piece n e p q =
    p ∙ ap (λ l. given ++ l) (q ∙ ap (λ k. take k piece ++ z) e)

-- no byte for a nonempty piece is the end
pub is_end : (was : Bool) (n room : ℕ) → n ≡ 0 → 0 < room → (was || ((n == 0) && nat_lt 0 room)) ≡ true
is_end was n room e r = grind (arith, nat_tests)
