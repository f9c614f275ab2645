-- What stands in bytes can be written: its operands fit their fields.
use Rattle.std.proofs.Common.{◌≡◌, ℕ, zero, suc, ◌+◌, ◌*◌, ◌/◌, ◌%◌, ◌<◌, ◌≤◌, List, [], ◌∷◌, length, drop, ⊎_elim, slice_index, refl, ap, ◌∙◌, ℤ, pos, neg_ℤ, ◌≤ℤ◌, ◌<ℤ◌, arith}
use Rattle.std.proofs.lemmas.Int.{ints}
use Rattle.std.proofs.lemmas.Bool.Decides.{nat_tests}
use Rattle.std.specs.Prelude.{FitsSigned}
use Rattle.std.specs.Int.{w8, w16, w32, w64}
use Rattle.dex_insn.specs.Fields.{number, field, signed}
use Rattle.dex_insn.specs.Raw.{Raw, I10x, I12x, I11n, I11x, I10t, I20t, I22x, I21t, I21s, I21h, I21c, I23x, I22b, I22t, I22s, I22c, I30t, I32x, I31i, I31t, I31c, I35c, I3rc, I51l, Packed, Sparse, Data}
use Rattle.dex_insn.specs.RawInsns.{SpellsInsn, InsnStands, IsElementWidth, registers, register}
use Rattle.dex_base.specs.Fields.{AreBytes}
use Rattle.dex_insn.specs.Written.{IsRaw, AreRegisters}
use Rattle.dex_insn.proofs.Unique.{slice-length}
use Rattle.dex_base.proofs.FieldBounds.{drop-AreBytes}

-- a number is below 2 to its bits
pub number-1 : (us : List ℕ) (k : ℕ) → AreBytes us → number us k 1 < 65536
unfolding number
number-1 us k bytes = let d = drop-AreBytes us (2 * k) bytes in omega (arith, d 0, d 1)

pub number-2 : (us : List ℕ) (k : ℕ) → AreBytes us → number us k 2 < 4294967296
unfolding number
number-2 us k bytes = let d = drop-AreBytes us (2 * k) bytes in omega (arith, d 0, d 1, d 2, d 3)

pub number-4 : (us : List ℕ) (k : ℕ) → AreBytes us → number us k 4 < 18446744073709551616
unfolding number
number-4 us k bytes = let d = drop-AreBytes us (2 * k) bytes in omega (arith, d 0, d 1, d 2, d 3, d 4, d 5, d 6, d 7)

-- and as a signed number fits its bits
nibble : (z : ℤ) (n : ℕ) → z ≡ signed 4 n → n < 16 → (neg_ℤ (pos 8) ≤ℤ z) × (z <ℤ pos 8)
nibble z n e h = (rw e (grind (arith, ints, nat_tests)), rw e (grind (arith, ints, nat_tests)))

signed-8 : (z : ℤ) (n : ℕ) → z ≡ signed 8 n → n < 256 → FitsSigned w8 z
signed-8 z n e h = rw e (grind (arith, ints, nat_tests))

signed-16 : (z : ℤ) (n : ℕ) → z ≡ signed 16 n → n < 65536 → FitsSigned w16 z
signed-16 z n e h = rw e (grind (arith, ints, nat_tests))

pub signed-32 : (z : ℤ) (n : ℕ) → z ≡ signed 32 n → n < 4294967296 → FitsSigned w32 z
signed-32 z n e h = rw e (grind (arith, ints, nat_tests))

signed-64 : (z : ℤ) (n : ℕ) → z ≡ signed 64 n → n < 18446744073709551616 → FitsSigned w64 z
signed-64 z n e h = rw e (grind (arith, ints, nat_tests))

pub register-fits : (n k bits : ℕ) → bits < 16 → register n k bits < 16
register-fits n k bits h = grind (arith, nat_tests)

register-free : (n k bits : ℕ) → n ≤ k → register n k bits ≡ 0
register-free n k bits h = grind (arith, nat_tests)

-- what holds of each of five, and of 0 after them, holds wherever is looked
each-five : (P : ℕ → ℕ → Type 0) (a b c d e : ℕ) → P 0 a → P 1 b → P 2 c → P 3 d → P 4 e → ((k : ℕ) → P k 0) → (k : ℕ) → P k (slice_index (a ∷ b ∷ c ∷ d ∷ e ∷ []) k)
each-five P a b c d e p q r s t past zero = p
each-five P a b c d e p q r s t past (suc zero) = q
each-five P a b c d e p q r s t past (suc (suc zero)) = r
each-five P a b c d e p q r s t past (suc (suc (suc zero))) = s
each-five P a b c d e p q r s t past (suc (suc (suc (suc zero)))) = t
each-five P a b c d e p q r s t past (suc (suc (suc (suc (suc k))))) = past (suc (suc (suc (suc (suc k)))))

named : (us : List ℕ) (n : ℕ) → AreRegisters n (registers us n)
named us n = record {
  count = refl;
  fit = λ k h. each-five (λ k r. r < 16)
      (register n 0 (field us 2 0 4)) (register n 1 (field us 2 4 4)) (register n 2 (field us 2 8 4)) (register n 3 (field us 2 12 4)) (register n 4 (field us 0 8 4))
      (register-fits n 0 (field us 2 0 4) (omega arith)) (register-fits n 1 (field us 2 4 4) (omega arith)) (register-fits n 2 (field us 2 8 4) (omega arith)) (register-fits n 3 (field us 2 12 4) (omega arith)) (register-fits n 4 (field us 0 8 4) (omega arith)) (λ k. omega arith) k;
  unused = λ k h. each-five (λ k r. n ≤ k → r ≡ 0)
      (register n 0 (field us 2 0 4)) (register n 1 (field us 2 4 4)) (register n 2 (field us 2 8 4)) (register n 3 (field us 2 12 4)) (register n 4 (field us 0 8 4))
      (register-free n 0 (field us 2 0 4)) (register-free n 1 (field us 2 4 4)) (register-free n 2 (field us 2 8 4)) (register-free n 3 (field us 2 12 4)) (register-free n 4 (field us 0 8 4)) (λ k h. refl) k h;
}

by-width : (n width : ℕ) → IsElementWidth width → ((n * width) % width ≡ 0) × ((n * width) / width ≡ n)
by-width n width h = ⊎_elim
    (λ (e : width ≡ 1). rw e (omega arith, omega arith))
    (⊎_elim
    (λ (e : width ≡ 2). rw e (omega arith, omega arith))
    (⊎_elim
    (λ (e : width ≡ 4). rw e (omega arith, omega arith))
    (λ (e : width ≡ 8). rw e (omega arith, omega arith))))
    h

fits-data : (us : List ℕ) (width : ℕ) (bytes : List ℕ) → AreBytes us → SpellsInsn us (Data width bytes) → IsRaw (Data width bytes)
fits-data us width bytes are h =
    let there = h.1 in
    let n2 = number-2 us 2 are in
    let long : length bytes ≡ number us 2 2 * width = ap length h.4 ∙ slice-length us 8 (8 + number us 2 2 * width) (omega arith) (omega arith) ∙ omega arith in
    let parts = by-width (number us 2 2) width h.3 in
    (h.3, rw long parts.0, rw (long, parts.1) n2)

-- what is spelled in bytes can be written
pub fits : (r : Raw) (us : List ℕ) → AreBytes us → SpellsInsn us r → IsRaw r
fits (I10x op) us bytes h = h.0.kind
fits (I12x op a b) us bytes h = (h.0.kind, (let e = h.1 in omega arith), (let e = h.2 in omega arith))
fits (I11n op a b) us bytes h = (h.0.kind, (let e = h.1 in omega arith), (nibble b (field us 0 12 4) h.2 (omega arith)).0, (nibble b (field us 0 12 4) h.2 (omega arith)).1)
fits (I11x op a) us bytes h = (h.0.kind, (let e = h.1 in omega arith))
fits (I10t op offset) us bytes h = (h.0.kind, signed-8 offset (field us 0 8 8) h.1 (omega arith))
fits (I20t op offset) us bytes h = (h.0.kind, signed-16 offset (number us 1 1) h.2 (number-1 us 1 bytes))
fits (I22x op a b) us bytes h = (h.0.kind, (let e = h.1 in omega arith), rw h.2 (number-1 us 1 bytes))
fits (I21t op a offset) us bytes h = (h.0.kind, signed-16 offset (number us 1 1) h.2 (number-1 us 1 bytes), (let e = h.1 in omega arith))
fits (I21s op a b) us bytes h = (h.0.kind, (let e = h.1 in omega arith), signed-16 b (number us 1 1) h.2 (number-1 us 1 bytes))
fits (I21h op a b) us bytes h = (h.0.kind, (let e = h.1 in omega arith), signed-16 b (number us 1 1) h.2 (number-1 us 1 bytes))
fits (I21c op a index) us bytes h = (h.0.kind, rw h.2 (number-1 us 1 bytes), (let e = h.1 in omega arith))
fits (I23x op a b c) us bytes h = (h.0.kind, (let e = h.1 in omega arith), (let e = h.2 in omega arith), (let e = h.3 in omega arith))
fits (I22b op a b c) us bytes h = (h.0.kind, (let e = h.1 in omega arith), (let e = h.2 in omega arith), signed-8 c (field us 1 8 8) h.3 (omega arith))
fits (I22t op a b offset) us bytes h = (h.0.kind, (let e = h.1 in omega arith), (let e = h.2 in omega arith), signed-16 offset (number us 1 1) h.3 (number-1 us 1 bytes))
fits (I22s op a b c) us bytes h = (h.0.kind, (let e = h.1 in omega arith), (let e = h.2 in omega arith), signed-16 c (number us 1 1) h.3 (number-1 us 1 bytes))
fits (I22c op a b index) us bytes h = (h.0.kind, (let e = h.1 in omega arith), (let e = h.2 in omega arith), rw h.3 (number-1 us 1 bytes))
fits (I30t op offset) us bytes h = (h.0.kind, signed-32 offset (number us 1 2) h.2 (number-2 us 1 bytes))
fits (I32x op a b) us bytes h = (h.0.kind, rw h.2 (number-1 us 1 bytes), rw h.3 (number-1 us 2 bytes))
fits (I31i op a b) us bytes h = (h.0.kind, (let e = h.1 in omega arith), signed-32 b (number us 1 2) h.2 (number-2 us 1 bytes))
fits (I31t op a offset) us bytes h = (h.0.kind, (let e = h.1 in omega arith), signed-32 offset (number us 1 2) h.2 (number-2 us 1 bytes))
fits (I31c op a index) us bytes h = (h.0.kind, (let e = h.1 in omega arith), rw h.2 (number-2 us 1 bytes))
fits (I35c op n regs index) us bytes h = (h.0.kind, h.2, rw h.3 (number-1 us 1 bytes), rw h.4 (named us n))
fits (I3rc op n first index) us bytes h = (h.0.kind, rw h.2 (number-1 us 1 bytes), (let e = h.1 in omega arith), rw h.3 (number-1 us 2 bytes))
fits (I51l op a b) us bytes h = (h.0.kind, (let e = h.1 in omega arith), signed-64 b (number us 1 4) h.2 (number-4 us 1 bytes))
fits (Packed first offsets) us bytes h =
    let there = h.1 in
    let n1 = number-1 us 1 bytes in
    let long = ap length h.3 ∙ slice-length us 8 (8 + 4 * number us 1 1) (omega arith) (omega arith) in
    (signed-32 first (number us 2 2) h.2 (number-2 us 2 bytes), omega arith, omega arith)
fits (Sparse keys offsets) us bytes h =
    let there = h.1 in
    let n1 = number-1 us 1 bytes in
    let long = ap length h.2 ∙ slice-length us 4 (4 + 4 * number us 1 1) (omega arith) (omega arith) in
    let far = ap length h.3 ∙ slice-length us (4 + 4 * number us 1 1) (4 + 8 * number us 1 1) (omega arith) (omega arith) in
    let count : length keys / 4 ≡ number us 1 1 = omega arith in
    (omega arith, omega arith, omega arith, rw count h.4)
fits (Data width elements) us bytes h = fits-data us width elements bytes h

-- what stands in bytes can be written
pub stands_fits : (bytes : List ℕ) (at : ℕ) (r : Raw) → AreBytes bytes → InsnStands bytes at r → IsRaw r
stands_fits bytes at r are s = fits r (drop (2 * at) bytes) (drop-AreBytes bytes (2 * at) are) s.spelled
