-- What spells an instruction is the bytes of its units alone.
use Rattle.std.proofs.Common.{◌≡◌, ℕ, ◌+◌, ◌-◌, ◌*◌, ◌≤◌, ◌++◌, List, length, take, drop, sym, ap, ◌∙◌, arith, length-append, length-drop}
use Rattle.std.specs.Prelude.{slice_range}
use Rattle.std.proofs.lemmas.List.{drop-append-le, take-append-le}
use Rattle.byteorder.specs.Endian.{little_number}
use Rattle.byteorder.specs.Numbers.{little_from-append}
use Rattle.dex_insn.specs.Fields.{number}
use Rattle.dex_insn.specs.RawInsns.{SpellsInsn, BeginsInsn, registers}
use Rattle.dex_insn.specs.declared.opcode.Format.{Format}
use Rattle.dex_insn.specs.declared.opcode.Format.TheVariants.{F35c}
use Rattle.dex_insn.specs.Raw.{Raw, units, I10x, I12x, I11n, I11x, I10t, I23x, I22b, I22t, I22s, I22c, I30t, I32x, I31i, I31t, I31c, I35c, I3rc, I51l, Packed, Sparse, Data}
use Rattle.dex_insn.specs.Opcodes.{units_of}
use Rattle.dex_insn.proofs.Unique.{slice-length}
use Rattle.dex_insn.proofs.Flaws.{some_unit}

-- a number within the bytes
pub number-append : (us rest : List ℕ) (k n : ℕ) → 2 * k + 2 * n ≤ length us → number (us ++ rest) k n ≡ number us k n
unfolding number
number-append us rest k n h =
    ap (little_number (2 * n)) (drop-append-le (2 * k) us rest (omega arith)) ∙ little_from-append (2 * n) (drop (2 * k) us) rest (omega (arith, length-drop (2 * k) us))

pub slice-append : (us rest : List ℕ) (a b : ℕ) → a ≤ b → b ≤ length us → slice_range (us ++ rest) a b ≡ slice_range us a b
slice-append us rest a b p q =
    ap (take (b - a)) (drop-append-le a us rest (omega arith)) ∙ take-append-le (b - a) (drop a us) rest (omega (arith, length-drop a us))

-- the lists have the same bytes in so many units from the first on, and the second has them all
pub record AreAlike (n : ℕ) (us vs : List ℕ) : Type 0 where
  pub long : 2 * n ≤ length vs
  pub number : (k m : ℕ) → 2 * k + 2 * m ≤ 2 * n → number vs k m ≡ number us k m
  pub slice : (a b : ℕ) → a ≤ b → b ≤ 2 * n → slice_range vs a b ≡ slice_range us a b

begins : (us vs : List ℕ) (f : Format) (op : ℕ) → AreAlike (units_of f) us vs → BeginsInsn us f op → BeginsInsn vs f op
begins us vs f op s b = let some = some_unit f in let n0 = s.number 0 1 (omega arith) in record { opcode = rw n0 b.opcode; kind = b.kind; whole = s.long }

registers-alike : (us vs : List ℕ) (n : ℕ) → number vs 0 1 ≡ number us 0 1 → number vs 2 1 ≡ number us 2 1 → registers vs n ≡ registers us n
registers-alike us vs n e f = simp (e, f)

-- an instruction stands wherever its units have the same bytes
pub alike : (r : Raw) (us vs : List ℕ) → AreAlike (units r) us vs → SpellsInsn us r → SpellsInsn vs r
unfolding units
alike (I35c op n regs index) us vs s h =
    let n0 = s.number 0 1 (omega arith) in let n1 = s.number 1 1 (omega arith) in let n2 = s.number 2 1 (omega arith) in
    (begins us vs F35c op s h.0, rw n0 h.1, h.2, rw n1 h.3, h.4 ∙ sym (registers-alike us vs n n0 n2))
alike (I10x op) us vs s h = (begins us vs _ _ s h.0, rw (s.number 0 1 (omega arith)) h.1)
alike (I11x op a) us vs s h = (begins us vs _ _ s h.0, rw (s.number 0 1 (omega arith)) h.1)
alike (I10t op offset) us vs s h = (begins us vs _ _ s h.0, rw (s.number 0 1 (omega arith)) h.1)
alike (I12x op a b) us vs s h = (begins us vs _ _ s h.0, rw (s.number 0 1 (omega arith)) h.1, rw (s.number 0 1 (omega arith)) h.2)
alike (I11n op a b) us vs s h = (begins us vs _ _ s h.0, rw (s.number 0 1 (omega arith)) h.1, rw (s.number 0 1 (omega arith)) h.2)
alike (I23x op a b c) us vs s h = (begins us vs _ _ s h.0, rw (s.number 0 1 (omega arith)) h.1, rw (s.number 1 1 (omega arith)) h.2, rw (s.number 1 1 (omega arith)) h.3)
alike (I22b op a b c) us vs s h = (begins us vs _ _ s h.0, rw (s.number 0 1 (omega arith)) h.1, rw (s.number 1 1 (omega arith)) h.2, rw (s.number 1 1 (omega arith)) h.3)
alike (I22t op a b offset) us vs s h = (begins us vs _ _ s h.0, rw (s.number 0 1 (omega arith)) h.1, rw (s.number 0 1 (omega arith)) h.2, rw (s.number 1 1 (omega arith)) h.3)
alike (I22s op a b c) us vs s h = (begins us vs _ _ s h.0, rw (s.number 0 1 (omega arith)) h.1, rw (s.number 0 1 (omega arith)) h.2, rw (s.number 1 1 (omega arith)) h.3)
alike (I22c op a b index) us vs s h = (begins us vs _ _ s h.0, rw (s.number 0 1 (omega arith)) h.1, rw (s.number 0 1 (omega arith)) h.2, rw (s.number 1 1 (omega arith)) h.3)
alike (I30t op offset) us vs s h = (begins us vs _ _ s h.0, rw (s.number 0 1 (omega arith)) h.1, rw (s.number 1 2 (omega arith)) h.2)
alike (I31i op a b) us vs s h = (begins us vs _ _ s h.0, rw (s.number 0 1 (omega arith)) h.1, rw (s.number 1 2 (omega arith)) h.2)
alike (I31t op a offset) us vs s h = (begins us vs _ _ s h.0, rw (s.number 0 1 (omega arith)) h.1, rw (s.number 1 2 (omega arith)) h.2)
alike (I31c op a index) us vs s h = (begins us vs _ _ s h.0, rw (s.number 0 1 (omega arith)) h.1, rw (s.number 1 2 (omega arith)) h.2)
alike (I32x op a b) us vs s h = (begins us vs _ _ s h.0, rw (s.number 0 1 (omega arith)) h.1, rw (s.number 1 1 (omega arith)) h.2, rw (s.number 2 1 (omega arith)) h.3)
alike (I3rc op n first index) us vs s h = (begins us vs _ _ s h.0, rw (s.number 0 1 (omega arith)) h.1, rw (s.number 1 1 (omega arith)) h.2, rw (s.number 2 1 (omega arith)) h.3)
alike (I51l op a b) us vs s h = (begins us vs _ _ s h.0, rw (s.number 0 1 (omega arith)) h.1, rw (s.number 1 4 (omega arith)) h.2)
alike (Packed first offsets) us vs s h =
    let there = h.1 in
    let part = slice-length us 8 (8 + 4 * number us 1 1) (omega arith) (omega arith) in
    let long = ap length h.3 ∙ part in
    let whole = s.long in
    let n0 = s.number 0 1 (omega arith) in let n1 = s.number 1 1 (omega arith) in let m2 = s.number 2 2 (omega arith) in
    let part = s.slice 8 (8 + 4 * number us 1 1) (omega arith) (omega arith) in
    (rw n0 h.0, omega arith, rw m2 h.2, rw (n1, part) h.3)
alike (Sparse keys offsets) us vs s h =
    let there = h.1 in
    let long = ap length h.2 ∙ slice-length us 4 (4 + 4 * number us 1 1) (omega arith) (omega arith) in
    let whole = s.long in
    let n0 = s.number 0 1 (omega arith) in let n1 = s.number 1 1 (omega arith) in
    let first = s.slice 4 (4 + 4 * number us 1 1) (omega arith) (omega arith) in
    let second = s.slice (4 + 4 * number us 1 1) (4 + 8 * number us 1 1) (omega arith) (omega arith) in
    (rw n0 h.0, omega arith, rw (n1, first) h.2, rw (n1, second) h.3, rw n1 h.4)
alike (Data width bytes) us vs s h =
    let there = h.1 in
    let long = ap length h.4 ∙ slice-length us 8 (8 + number us 2 2 * width) (omega arith) (omega arith) in
    let whole = s.long in
    let n0 = s.number 0 1 (omega arith) in let n1 = s.number 1 1 (omega arith) in let m2 = s.number 2 2 (omega arith) in
    let same : number vs 2 2 * width ≡ number us 2 2 * width = ap (λ v. v * width) m2 in
    let part = s.slice 8 (8 + number us 2 2 * width) (omega arith) (omega arith) in
    (rw n0 h.0, omega arith, rw n1 h.2, h.3, rw (m2, part) h.4)
alike _ us vs s h = (begins us vs _ _ s h.0, rw (s.number 0 1 (omega arith)) h.1, rw (s.number 1 1 (omega arith)) h.2)

-- more bytes after it change nothing
pub more : (r : Raw) (us rest : List ℕ) → 2 * units r ≤ length us → SpellsInsn us r → SpellsInsn (us ++ rest) r
more r us rest fits h = alike r us (us ++ rest) (record {
  long = let l = length-append us rest in omega arith;
  number = λ k m p. number-append us rest k m (omega arith);
  slice = λ a b p q. slice-append us rest a b p (omega arith);
}) h

-- and can be left out
pub less : (r : Raw) (us rest : List ℕ) → 2 * units r ≤ length us → SpellsInsn (us ++ rest) r → SpellsInsn us r
less r us rest fits h = alike r (us ++ rest) us (record {
  long = fits;
  number = λ k m p. sym (number-append us rest k m (omega arith));
  slice = λ a b p q. sym (slice-append us rest a b p (omega arith));
}) h
