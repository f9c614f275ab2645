-- The letters of a shorty, one by one.
use Rattle.std.proofs.Common.{◌≡◌, ℕ, suc, ◌+◌, ◌<◌, List, [], ◌∷◌, length, get_or, refl, sym, ap, ◌∙◌, arith}
use Rattle.std.proofs.lemmas.List.{ext_get_or}

-- units that are the letters, one by one
pub letters_are : (units more : List ℕ) (first : ℕ) → 0 < length units → length units ≡ length more + 1 → get_or units 0 0 ≡ first → ((k : ℕ) → k < length more → get_or units (k + 1) 0 ≡ get_or more k 0) → units ≡ first ∷ more
letters_are [] more first some size at each = absurd (omega (arith, some))
letters_are (u ∷ us) more first some size at each =
    let rest : us ≡ more = ext_get_or 0 us more (omega (arith, size)) (λ k lt. let e : k + 1 ≡ suc k = omega arith in ap (λ n. get_or (u ∷ us) n 0) (sym e) ∙ each k (omega (arith, lt, size))) in
    rw (at, rest) refl

-- and back
pub letter_is : (units more : List ℕ) (first k : ℕ) → units ≡ first ∷ more → get_or units (k + 1) 0 ≡ get_or more k 0
letter_is units more first k is = let e : k + 1 ≡ suc k = omega arith in ap (λ xs. get_or xs (k + 1) 0) is ∙ ap (λ n. get_or (first ∷ more) n 0) e
