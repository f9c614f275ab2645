-- The numbers that units spell.
use Rattle.std.proofs.Common.{◌≡◌, ℕ, ◌/◌, ◌%◌, ◌<◌, List, ◌∷◌, arith}
use Rattle.dex_insn.specs.Fields.{number}

pub at0 : (u : ℕ) (rest : List ℕ) → u < 65536 → number (u % 256 ∷ u / 256 % 256 ∷ rest) 0 1 ≡ u
unfolding number
at0 u rest fits = omega arith

pub at1 : (p q u : ℕ) (rest : List ℕ) → u < 65536 → number (p ∷ q ∷ u % 256 ∷ u / 256 % 256 ∷ rest) 1 1 ≡ u
unfolding number
at1 p q u rest fits = omega arith

pub at2 : (p q r s u : ℕ) (rest : List ℕ) → u < 65536 → number (p ∷ q ∷ r ∷ s ∷ u % 256 ∷ u / 256 % 256 ∷ rest) 2 1 ≡ u
unfolding number
at2 p q r s u rest fits = omega arith

pub two1 : (p q n : ℕ) (rest : List ℕ) → n < 4294967296 → number (p ∷ q ∷ (n % 65536) % 256 ∷ (n % 65536) / 256 % 256 ∷ (n / 65536) % 256 ∷ (n / 65536) / 256 % 256 ∷ rest) 1 2 ≡ n
unfolding number
two1 p q n rest fits = omega arith

pub two2 : (p q r s n : ℕ) (rest : List ℕ) → n < 4294967296 → number (p ∷ q ∷ r ∷ s ∷ (n % 65536) % 256 ∷ (n % 65536) / 256 % 256 ∷ (n / 65536) % 256 ∷ (n / 65536) / 256 % 256 ∷ rest) 2 2 ≡ n
unfolding number
two2 p q r s n rest fits = omega arith

pub four1 : (p q n : ℕ) (rest : List ℕ) → n < 18446744073709551616 →
    number (p ∷ q ∷ (n % 65536) % 256 ∷ (n % 65536) / 256 % 256 ∷ (n / 65536 % 65536) % 256 ∷ (n / 65536 % 65536) / 256 % 256
    ∷ (n / 4294967296 % 65536) % 256 ∷ (n / 4294967296 % 65536) / 256 % 256 ∷ (n / 281474976710656) % 256 ∷ (n / 281474976710656) / 256 % 256 ∷ rest) 1 4 ≡ n
unfolding number
four1 p q n rest fits = omega arith
