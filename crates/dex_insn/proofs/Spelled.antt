-- What is written spells the instruction.
use Rattle.std.proofs.Common.{◌≡◌, ℕ, Some, ◌+◌, ◌*◌, ◌/◌, ◌%◌, ◌<◌, ◌≤◌, ◌++◌, List, [], ◌∷◌, length, slice_index, arith, refl, sym, ap, ◌∙◌, length-append, ⊎_elim, take, drop, ◌-◌, take_all, zero, suc, if◌then◌else◌, ◌==◌}
use Rattle.std.proofs.lemmas.Nat.{div-add-mod'}
use Rattle.std.proofs.Math.Nat.{div-le_self}
use Rattle.dex_insn.specs.Opcodes.{format_of, units_of}
use Rattle.dex_insn.specs.RawInsns.{BeginsInsn, IsElementWidth, SpellsInsn, register}
use Rattle.std.specs.Prelude.{slice_range}
use Rattle.std.proofs.Math.Seq.{take-append_seam, drop-append_seam, drop-append-add}
use Rattle.std.specs.Int.{cast_unsigned, w8, w16, w32, w64}
use Rattle.std.proofs.lemmas.Bool.{cases_lt}
use Rattle.std.proofs.lemmas.Bool.Decides.{nat_tests}
use Rattle.dex_insn.specs.Fields.{number, field, signed}
use Rattle.dex_insn.specs.Written.{IsRaw, written, bytes_of, AreRegisters}
use Rattle.dex_insn.specs.declared.opcode.Format.{Format}
use Rattle.dex_insn.specs.declared.opcode.Format.TheVariants.{F10x, F12x, F11n, F11x, F10t, F20t, F22x, F21t, F21s, F21h, F21c, F23x, F22b, F22t, F22s, F22c, F30t, F32x, F31i, F31t, F31c, F35c, F3rc, F51l}
use Rattle.dex_insn.specs.Raw.{Raw, units, I10x, I12x, I11n, I11x, I10t, I20t, I22x, I21t, I21s, I21h, I21c, I23x, I22b, I22t, I22s, I22c, I30t, I32x, I31i, I31t, I31c, I35c, I3rc, I51l, Packed, Sparse, Data}
use Rattle.dex_insn.proofs.Signs.{signed_8, signed_16, signed_32, signed_64, signed_nibble, signed_byte, signed_half, unsigned_8, unsigned_16, unsigned_32, unsigned_64}
use Rattle.dex_insn.proofs.Numbers.{at0, at1, at2, two1, two2, four1}
use Rattle.dex_insn.proofs.Table.{op_fits}

-- a list of five is its elements
five : (xs : List ℕ) → length xs ≡ 5 → slice_index xs 0 ∷ slice_index xs 1 ∷ slice_index xs 2 ∷ slice_index xs 3 ∷ slice_index xs 4 ∷ [] ≡ xs
five (a ∷ b ∷ c ∷ d ∷ e ∷ []) h = refl
five _ h = absurd (omega arith)

below_16 : (n : ℕ) (regs : List ℕ) → AreRegisters n regs → (k : ℕ) → slice_index regs k < 16
below_16 n regs h k = ⊎_elim (λ (p : k < n). h.fit k p) (λ (p : n ≤ k). let z = h.unused k p in omega arith) (cases_lt k n)

kept : (n k b v : ℕ) → b ≡ v → (n ≤ k → v ≡ 0) → register n k b ≡ v
kept n k b v e z = grind (arith, nat_tests)

-- a register as it is read
one_register : (n k bits : ℕ) (regs : List ℕ) → AreRegisters n regs → bits ≡ slice_index regs k → register n k bits ≡ slice_index regs k
one_register n k bits regs h e = kept n k bits (slice_index regs k) e (h.unused k)

same_five : (a b c d e a' b' c' d' e' : ℕ) → a ≡ a' → b ≡ b' → c ≡ c' → d ≡ d' → e ≡ e' → a ∷ b ∷ c ∷ d ∷ e ∷ [] ≡ a' ∷ b' ∷ c' ∷ d' ∷ e' ∷ []
same_five a b c d e a' b' c' d' e' p q r s t = cc

-- a part of bytes that ends with them
whole : (xs : List ℕ) (n : ℕ) → n ≡ length xs → xs ≡ take n xs
whole xs n e = sym (take_all n xs (omega arith))

-- the first of two parts
first_part : (xs ys : List ℕ) (n : ℕ) → n ≡ length xs → xs ≡ take n (xs ++ ys)
first_part xs ys n e = rw e (sym (take-append_seam xs ys))

-- the second of two parts, after four bytes
second_part : (a b c d : ℕ) (xs ys : List ℕ) (n m : ℕ) → n ≡ 4 + length xs → m ≡ n + length ys → ys ≡ slice_range (a ∷ b ∷ c ∷ d ∷ (xs ++ ys)) n m
second_part a b c d xs ys n m e f =
    let head : List ℕ = a ∷ b ∷ c ∷ d ∷ [] in
    let dropped : drop n (a ∷ b ∷ c ∷ d ∷ (xs ++ ys)) ≡ ys = rw e (drop-append-add head (xs ++ ys) (length xs) ∙ drop-append_seam xs ys) in
    rw dropped (whole ys (m - n) (omega arith))

by_parity : (r : ℕ) → r < 2 → length {A = ℕ} (if r == 0 then [] else 0 ∷ []) ≡ r
by_parity zero h = refl
by_parity (suc zero) h = refl
by_parity (suc (suc r)) h = absurd (omega arith)

width_fits : (width : ℕ) → IsElementWidth width → width < 65536
width_fits width h = grind arith

pad_length : (n : ℕ) → length {A = ℕ} (if n % 2 == 0 then [] else 0 ∷ []) ≡ n % 2
pad_length n = by_parity (n % 2) (omega arith)

-- the first unit has the opcode in its low byte
one : (f : Format) (op u x : ℕ) (rest : List ℕ) → format_of op ≡ Some f → u ≡ op + 256 * x → x < 256 → 2 * units_of f ≤ 2 + length rest
    → BeginsInsn (bytes_of (u ∷ []) ++ rest) f op × (number (bytes_of (u ∷ []) ++ rest) 0 1 ≡ u)
one f op u x rest kind is fits long =
    let byte = op_fits op f kind in
    let unit = at0 u rest (omega arith) in
    (record { opcode = omega arith; kind = kind; whole = omega arith }, unit)

-- and a unit after it
two : (f : Format) (op u x v : ℕ) (rest : List ℕ) → format_of op ≡ Some f → u ≡ op + 256 * x → x < 256 → v < 65536 → 2 * units_of f ≤ 4 + length rest
    → BeginsInsn (bytes_of (u ∷ v ∷ []) ++ rest) f op × (number (bytes_of (u ∷ v ∷ []) ++ rest) 0 1 ≡ u) × (number (bytes_of (u ∷ v ∷ []) ++ rest) 1 1 ≡ v)
two f op u x v rest kind is fits small long =
    let s = one f op u x (v % 256 ∷ v / 256 % 256 ∷ rest) kind is fits (omega arith) in
    (s.0, s.1, at1 (u % 256) (u / 256 % 256) v rest small)

-- and one more
three : (f : Format) (op u x v w : ℕ) → format_of op ≡ Some f → u ≡ op + 256 * x → x < 256 → v < 65536 → w < 65536 → units_of f ≤ 3
    → BeginsInsn (bytes_of (u ∷ v ∷ w ∷ [])) f op × (number (bytes_of (u ∷ v ∷ w ∷ [])) 0 1 ≡ u) × (number (bytes_of (u ∷ v ∷ w ∷ [])) 1 1 ≡ v) × (number (bytes_of (u ∷ v ∷ w ∷ [])) 2 1 ≡ w)
three f op u x v w kind is fits small last long =
    let s = two f op u x v (w % 256 ∷ w / 256 % 256 ∷ []) kind is fits small (omega arith) in
    (s.0, s.1, s.2, at2 (u % 256) (u / 256 % 256) (v % 256) (v / 256 % 256) w [] last)

-- two units after the first are one number
wide : (f : Format) (op u x n : ℕ) → format_of op ≡ Some f → u ≡ op + 256 * x → x < 256 → n < 4294967296 → units_of f ≤ 3
    → BeginsInsn (bytes_of (u ∷ n % 65536 ∷ n / 65536 ∷ [])) f op × (number (bytes_of (u ∷ n % 65536 ∷ n / 65536 ∷ [])) 0 1 ≡ u) × (number (bytes_of (u ∷ n % 65536 ∷ n / 65536 ∷ [])) 1 2 ≡ n)
wide f op u x n kind is fits small long =
    let s = one f op u x (bytes_of (n % 65536 ∷ n / 65536 ∷ [])) kind is fits (omega arith) in
    (s.0, s.1, two1 (u % 256) (u / 256 % 256) n [] small)

pub spells : (insn : Raw) → IsRaw insn → SpellsInsn (written insn) insn
unfolding written
spells (I10x op) h =
    let s = one F10x op op 0 [] h (omega arith) (omega arith) (omega arith) in
    (s.0, omega arith)
spells (I12x op a b) h =
    let s = one F12x op (op + 256 * a + 4096 * b) (a + 16 * b) [] h.0 (omega arith) (omega arith) (omega arith) in
    (s.0, omega arith, omega arith)
spells (I11n op a b) h =
    let s = one F11n op (op + 256 * a + 4096 * (cast_unsigned w8 b % 16)) (a + 16 * (cast_unsigned w8 b % 16)) [] h.0 (omega arith) (omega arith) (omega arith) in
    let f : field (bytes_of ((op + 256 * a + 4096 * (cast_unsigned w8 b % 16)) ∷ [])) 0 12 4 ≡ cast_unsigned w8 b % 16 = omega arith in
    (s.0, omega arith, sym (signed_nibble b h.2 h.3) ∙ ap (signed 4) (sym f))
spells (I11x op a) h =
    let s = one F11x op (op + 256 * a) a [] h.0 refl (omega arith) (omega arith) in
    (s.0, omega arith)
spells (I10t op offset) h =
    let s = one F10t op (op + 256 * (cast_unsigned w32 offset % 256)) (cast_unsigned w32 offset % 256) [] h.0 refl (omega arith) (omega arith) in
    let f : field (bytes_of ((op + 256 * (cast_unsigned w32 offset % 256)) ∷ [])) 0 8 8 ≡ cast_unsigned w32 offset % 256 = omega arith in
    (s.0, sym (signed_byte offset h.1) ∙ ap (signed 8) (sym f))
spells (I20t op offset) h =
    let s = two F20t op op 0 (cast_unsigned w32 offset % 65536) [] h.0 (omega arith) (omega arith) (omega arith) (omega arith) in
    (s.0, omega arith, sym (signed_half offset h.1) ∙ ap (signed 16) (sym s.2))
spells (I22x op a b) h =
    let s = two F22x op (op + 256 * a) a b [] h.0 refl (omega arith) (omega arith) (omega arith) in
    (s.0, omega arith, sym s.2)
spells (I21t op a offset) h =
    let s = two F21t op (op + 256 * a) a (cast_unsigned w32 offset % 65536) [] h.0 refl (omega arith) (omega arith) (omega arith) in
    (s.0, omega arith, sym (signed_half offset h.1) ∙ ap (signed 16) (sym s.2))
spells (I21s op a b) h =
    let s = two F21s op (op + 256 * a) a (cast_unsigned w16 b) [] h.0 refl (omega arith) (unsigned_16 b h.2) (omega arith) in
    (s.0, omega arith, sym (signed_16 b h.2) ∙ ap (signed 16) (sym s.2))
spells (I21h op a b) h =
    let s = two F21h op (op + 256 * a) a (cast_unsigned w16 b) [] h.0 refl (omega arith) (unsigned_16 b h.2) (omega arith) in
    (s.0, omega arith, sym (signed_16 b h.2) ∙ ap (signed 16) (sym s.2))
spells (I21c op a index) h =
    let s = two F21c op (op + 256 * a) a index [] h.0 refl (omega arith) (omega arith) (omega arith) in
    (s.0, omega arith, sym s.2)
spells (I23x op a b c) h =
    let s = two F23x op (op + 256 * a) a (b + 256 * c) [] h.0 refl (omega arith) (omega arith) (omega arith) in
    (s.0, omega arith, omega arith, omega arith)
spells (I22b op a b c) h =
    let bound = unsigned_8 c h.3 in
    let s = two F22b op (op + 256 * a) a (b + 256 * cast_unsigned w8 c) [] h.0 refl (omega arith) (omega arith) (omega arith) in
    let f : field (bytes_of ((op + 256 * a) ∷ (b + 256 * cast_unsigned w8 c) ∷ [])) 1 8 8 ≡ cast_unsigned w8 c = omega arith in
    (s.0, omega arith, omega arith, sym (signed_8 c h.3) ∙ ap (signed 8) (sym f))
spells (I22t op a b offset) h =
    let s = two F22t op (op + 256 * a + 4096 * b) (a + 16 * b) (cast_unsigned w32 offset % 65536) [] h.0 (omega arith) (omega arith) (omega arith) (omega arith) in
    (s.0, omega arith, omega arith, sym (signed_half offset h.3) ∙ ap (signed 16) (sym s.2))
spells (I22s op a b c) h =
    let s = two F22s op (op + 256 * a + 4096 * b) (a + 16 * b) (cast_unsigned w16 c) [] h.0 (omega arith) (omega arith) (unsigned_16 c h.3) (omega arith) in
    (s.0, omega arith, omega arith, sym (signed_16 c h.3) ∙ ap (signed 16) (sym s.2))
spells (I22c op a b index) h =
    let s = two F22c op (op + 256 * a + 4096 * b) (a + 16 * b) index [] h.0 (omega arith) (omega arith) (omega arith) (omega arith) in
    (s.0, omega arith, omega arith, sym s.2)
spells (I30t op offset) h =
    let s = wide F30t op op 0 (cast_unsigned w32 offset) h.0 (omega arith) (omega arith) (unsigned_32 offset h.1) (omega arith) in
    (s.0, omega arith, sym (signed_32 offset h.1) ∙ ap (signed 32) (sym s.2))
spells (I32x op a b) h =
    let s = three F32x op op 0 a b h.0 (omega arith) (omega arith) (omega arith) (omega arith) (omega arith) in
    (s.0, omega arith, sym s.2, sym s.3)
spells (I31i op a b) h =
    let s = wide F31i op (op + 256 * a) a (cast_unsigned w32 b) h.0 refl (omega arith) (unsigned_32 b h.2) (omega arith) in
    (s.0, omega arith, sym (signed_32 b h.2) ∙ ap (signed 32) (sym s.2))
spells (I31t op a offset) h =
    let s = wide F31t op (op + 256 * a) a (cast_unsigned w32 offset) h.0 refl (omega arith) (unsigned_32 offset h.2) (omega arith) in
    (s.0, omega arith, sym (signed_32 offset h.2) ∙ ap (signed 32) (sym s.2))
spells (I31c op a index) h =
    let s = wide F31c op (op + 256 * a) a index h.0 refl (omega arith) (omega arith) (omega arith) in
    (s.0, omega arith, sym s.2)
spells (I35c op n regs index) h =
    let r0 = below_16 n regs h.3 0 in
    let r1 = below_16 n regs h.3 1 in
    let r2 = below_16 n regs h.3 2 in
    let r3 = below_16 n regs h.3 3 in
    let r4 = below_16 n regs h.3 4 in
    let u0 = op + 256 * slice_index regs 4 + 4096 * n in
    let u2 = slice_index regs 0 + 16 * slice_index regs 1 + 256 * slice_index regs 2 + 4096 * slice_index regs 3 in
    let s = three F35c op u0 (slice_index regs 4 + 16 * n) index u2 h.0 (omega arith) (omega arith) (omega arith) (omega arith) (omega arith) in (
      s.0,
      omega arith,
      h.1,
      sym s.2,
      sym (same_five _ _ _ _ _ _ _ _ _ _ (one_register n 0 _ regs h.3 (omega arith)) (one_register n 1 _ regs h.3 (omega arith)) (one_register n 2 _ regs h.3 (omega arith)) (one_register n 3 _ regs h.3 (omega arith)) (one_register n 4 _ regs h.3 (omega arith)) ∙ five regs h.3.count),
    )
spells (I3rc op n first index) h =
    let s = three F3rc op (op + 256 * n) n index first h.0 refl (omega arith) (omega arith) (omega arith) (omega arith) in
    (s.0, omega arith, sym s.2, sym s.3)
spells (I51l op a b) h =
    let n = cast_unsigned w64 b in
    let s = one F51l op (op + 256 * a) a (bytes_of (n % 65536 ∷ n / 65536 % 65536 ∷ n / 4294967296 % 65536 ∷ n / 281474976710656 ∷ [])) h.0 refl (omega arith) (omega arith) in
    let e = four1 ((op + 256 * a) % 256) ((op + 256 * a) / 256 % 256) n [] (unsigned_64 b h.2) in
    (s.0, omega arith, sym (signed_64 b h.2) ∙ ap (signed 64) (sym e))
spells (Packed first offsets) h =
    let bound = unsigned_32 first h.0 in
    let size = length offsets / 4 in
    let low = cast_unsigned w32 first % 65536 in
    let high = cast_unsigned w32 first / 65536 in
    let tail = (low % 256) ∷ (low / 256 % 256) ∷ (high % 256) ∷ (high / 256 % 256) ∷ offsets in
    let e0 = at0 0x0100 ((size % 256) ∷ (size / 256 % 256) ∷ tail) (omega arith) in
    let e1 = at1 0 1 size tail (omega arith) in
    let e2 = two2 0 1 (size % 256) (size / 256 % 256) (cast_unsigned w32 first) offsets (omega arith) in
    (e0, omega arith, sym (signed_32 first h.0) ∙ ap (signed 32) (sym e2), whole offsets _ (omega arith))
spells (Sparse keys offsets) h =
    let size = length keys / 4 in
    let tail = keys ++ offsets in
    let e0 = at0 0x0200 ((size % 256) ∷ (size / 256 % 256) ∷ tail) (omega arith) in
    let e1 = at1 0 2 size tail (omega arith) in
    let len = length-append keys offsets in
    (e0, omega arith, first_part keys offsets _ (omega arith), second_part 0 2 (size % 256) (size / 256 % 256) keys offsets _ _ (omega arith) (omega arith), rw e1 h.3)
spells (Data width bytes) h =
    let size = length bytes in
    let count = size / width in
    let pad : List ℕ = if size % 2 == 0 then [] else 0 ∷ [] in
    let fits = width_fits width h.0 in
    let product : count * width ≡ size = let e = div-add-mod' size width in let z = h.1 in omega arith in
    let bound : count ≤ size = div-le_self size width in
    let tail = bytes ++ pad in
    let e0 = at0 0x0300 ((width % 256) ∷ (width / 256 % 256) ∷ (count % 65536 % 256) ∷ (count % 65536 / 256 % 256) ∷ (count / 65536 % 256) ∷ (count / 65536 / 256 % 256) ∷ tail) (omega arith) in
    let e1 = at1 0 3 width ((count % 65536 % 256) ∷ (count % 65536 / 256 % 256) ∷ (count / 65536 % 256) ∷ (count / 65536 / 256 % 256) ∷ tail) (omega arith) in
    let e2 = two2 0 3 (width % 256) (width / 256 % 256) count tail (omega arith) in
    let whole_size = ap (λ n. n * width) e2 ∙ product in
    let len = length-append bytes pad in
    let pads = pad_length size in
    (e0, omega arith, sym e1, h.0, first_part bytes pad _ (omega arith))

-- the written bytes are the units of the instruction
pub length_written : (insn : Raw) → IsRaw insn → length (written insn) ≡ 2 * units insn
unfolding written units
length_written (Sparse keys offsets) h = let e = length-append keys offsets in omega arith
length_written (Data width bytes) h =
    let pad : List ℕ = if length bytes % 2 == 0 then [] else 0 ∷ [] in
    let e = length-append bytes pad in let p = pad_length (length bytes) in omega arith
length_written _ h = omega arith
