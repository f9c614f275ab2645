-- How far an instruction is from an address.
use Rattle.std.proofs.Common.{◌≡◌, ℕ, ℤ, pos, ◌+ℤ◌, ◌-ℤ◌, ◌<◌, List, length, get_or, sym, ap, arith, Option, Some, None, subst}
use Rattle.std.specs.Prelude.{unwrap_or}
use Rattle.std.proofs.lemmas.Int.{ints}
use Rattle.code_read.specs.Places.{Rises, target_at}
use Rattle.code_read.specs.Linked.{target_number}
use Rattle.code_read.proofs.PlaceLaws.{target-to}
use Rattle.code_write.specs.Fits.{distance_of}

back : (m n : ℕ) → (pos m +ℤ (pos n -ℤ pos m)) ≡ pos n
back m n = omega (arith, ints)

pub distance-leads : (ss : List ℕ) (at to : ℕ) (z : ℤ) → Rises ss → to < length ss → z ≡ distance_of ss at to → target_number ss at z ≡ to
unfolding target_number
distance-leads ss at to z r l e =
    let p : target_at ss at z ≡ Some to = subst (λ (y : ℤ). target_at ss at y ≡ Some to) (sym e) (target-to ss at to (distance_of ss at to) r l (back at (get_or ss to 0))) in
    ap (λ (o : Option ℕ). unwrap_or o (length ss)) p

-- what leads to an instruction leads there by its address
or-there : (o : Option ℕ) (n d : ℕ) → unwrap_or o d ≡ n → n < d → o ≡ Some n
or-there None n d e l = absurd (omega (arith, e, l))
or-there (Some m) n d e l = ap (λ (k : ℕ). Some k) e

pub target_number-there : (ss : List ℕ) (at n : ℕ) (z : ℤ) → target_number ss at z ≡ n → n < length ss → target_at ss at z ≡ Some n
unfolding target_number
target_number-there ss at n z e l = or-there (target_at ss at z) n (length ss) e l

pub gap-is : (b a : ℕ) (z : ℤ) → (pos a +ℤ z) ≡ pos b → z ≡ pos b -ℤ pos a
gap-is b a z e = omega (arith, ints)
