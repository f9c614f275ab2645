-- Keys by their numbers.
use Rattle.std.proofs.Common.{ℕ, ℤ, pos, ◌+◌, ◌<◌, List, length, get_or, subst, arith}
use Rattle.std.specs.Prelude.{◌<ℤ◌}
use Rattle.std.proofs.lemmas.Option.{slice_get_within, get_or_from_slice_get, slice_get-get_or}
use Rattle.program_types.specs.Operands.{AreRisingKeys}
use Rattle.code_rules.specs.inner.Parts.{KeyIsBelow}

pub rising : (keys : List ℤ) → ((j : ℕ) → j + 1 < length keys → KeyIsBelow keys j) → AreRisingKeys keys
rising keys h i a b p q =
    let l = slice_get_within keys (i + 1) b q in
    subst (λ (z : ℤ). z <ℤ b) (get_or_from_slice_get keys i a (pos 0) p)
    (subst (λ (z : ℤ). get_or keys i (pos 0) <ℤ z) (get_or_from_slice_get keys (i + 1) b (pos 0) q) (h i l))

pub risen : (keys : List ℤ) → AreRisingKeys keys → (j : ℕ) → j + 1 < length keys → KeyIsBelow keys j
risen keys h j l = h j (get_or keys j (pos 0)) (get_or keys (j + 1) (pos 0)) (slice_get-get_or keys j (pos 0) (omega arith)) (slice_get-get_or keys (j + 1) (pos 0) l)
