-- How long the spellings of compound grammars are.
use Rattle.std.proofs.Common.{ℕ, ◌+◌, ◌≤◌, List, [], ◌∷◌, length, ap, arith}
use Rattle.std.specs.List.{sum_by}
use Rattle.std.proofs.lemmas.List.{length-append}
use Rattle.std.proofs.lemmas.List.Sums.{sum_by-cons}
use Rattle.dex_base.specs.Grammar.{Then, Each, Many, Counted, Ended}
use Rattle.dex_base.specs.Leb128.{Spells, Shortest}
use Rattle.dex_base.proofs.Numbers.{some_byte}

-- a spelling of a value is at most as long as the number for that value says
abbrev pub IsAtMost : {V : Type 0} → (List ℕ → V → Type 0) → (V → ℕ) → Type 0
IsAtMost {V} G most = (bytes : List ℕ) (v : V) → G bytes v → length bytes ≤ most v

-- a spelling of a value is at least as long
abbrev pub IsAtLeast : {V : Type 0} → (List ℕ → V → Type 0) → (V → ℕ) → Type 0
IsAtLeast {V} G least = (bytes : List ℕ) (v : V) → G bytes v → least v ≤ length bytes

-- ---- numbers

pub Spells-most : IsAtMost Spells (λ _. 5)
Spells-most bytes n s = s.short

pub Spells-least : IsAtLeast Spells (λ _. 1)
Spells-least bytes n s = omega (arith, some_byte bytes s.sequence)

-- ---- at most

pub Shortest-most : {V : Type 0} (G : List ℕ → V → Type 0) (most : V → ℕ) → IsAtMost G most → IsAtMost (Shortest G) most
Shortest-most G most g bytes v p = g bytes v p.spelled

pub Then-most : {V W : Type 0} (G : List ℕ → V → Type 0) (H : V → List ℕ → W → Type 0) (most : V → ℕ) (more : V → W → ℕ)
    → IsAtMost G most → ((v : V) → IsAtMost (H v) (more v)) → IsAtMost (Then G H) (λ p. most p.0 + more p.0 p.1)
Then-most G H most more g h bytes p s =
    let a = g s.front p.0 s.first in
    let b = h p.0 s.back p.1 s.second in
    omega (arith, a, b, ap length s.joined, length-append s.front s.back)

pub Each-most : {V : Type 0} (G : List ℕ → V → Type 0) (most : V → ℕ) → IsAtMost G most → IsAtMost (Each G) (sum_by most)
Each-most G most g bytes [] p = omega (arith, ap length p)
Each-most G most g bytes (v ∷ vs) p =
    let a = g p.0 v p.3 in
    let b = Each-most G most g p.1 vs p.4 in
    rw (sum_by-cons most v vs) (omega (arith, a, b, ap length p.2, length-append p.0 p.1))

pub Many-most : {V : Type 0} (G : List ℕ → V → Type 0) (n : ℕ) (most : V → ℕ) → IsAtMost G most → IsAtMost (Many G n) (sum_by most)
Many-most G n most g bytes vs p = Each-most G most g bytes vs p.1

pub Counted-most : {V : Type 0} (C : List ℕ → ℕ → Type 0) (G : List ℕ → V → Type 0) (count : ℕ) (most : V → ℕ) → IsAtMost C (λ _. count) → IsAtMost G most → IsAtMost (Counted C G) (λ vs. count + sum_by most vs)
Counted-most C G count most c g bytes vs p = Then-most C (Many G) (λ _. count) (λ _. sum_by most) c (λ n. Many-most G n most g) bytes _ p

pub Ended-most : {V : Type 0} (G : List ℕ → V → Type 0) (most : V → ℕ) → IsAtMost G most → IsAtMost (Ended G) (λ v. most v + 1)
Ended-most G most g bytes v p = let a = g p.front v p.spelled in omega (arith, a, ap length p.joined, length-append p.front (0 ∷ []))

-- ---- at least
