-- The units at a place spell one instruction at most.
use Rattle.std.proofs.Common.{◌≡◌, ℕ, ◌+◌, ◌-◌, ◌*◌, drop, true, false, length-drop, length-take-le, ◌<◌, ◌≤◌, List, Option, Some, None, sym, ap, ◌∙◌, refl, arith, ℤ, length, if◌then◌else◌, ◌==◌, ◌≢◌, ◌⊎◌, inl, inr, ⊎_elim}
use Rattle.std.proofs.lemmas.Bool.Decides.{nat_tests}
use Rattle.std.specs.Prelude.{slice_range, IsTrue}
use Rattle.dex_insn.specs.Fields.{number, field, signed, SwitchKeysRise}
use Rattle.dex_insn.specs.Opcodes.{format_of, formats, units_of}
use Rattle.dex_insn.specs.Raw.{Raw, units, is_payload, packed_units, sparse_units, data_units, I10x, I12x, I11n, I11x, I10t, I20t, I22x, I21t, I21s, I21h, I21c, I23x, I22b, I22t, I22s, I22c, I30t, I32x, I31i, I31t, I31c, I35c, I3rc, I51l, Packed, Sparse, Data}
use Rattle.dex_insn.specs.RawInsns.{SpellsInsn, BeginsInsn, registers, IsPayload, IsElementWidth}
use Rattle.dex_insn.specs.Flaws.{format_at, has_zero_byte, head_units, payload_units}
use Rattle.dex_insn.specs.declared.opcode.Format.{Format}
use Rattle.dex_insn.specs.declared.opcode.Format.TheVariants.{F10x, F12x, F11n, F11x, F10t, F20t, F22x, F21t, F21s, F21h, F21c, F23x, F22b, F22t, F22s, F22c, F30t, F32x, F31i, F31t, F31c, F35c, F3rc, F51l}

-- the instruction that the units spell in a format
abbrev pub in_format : List ℕ → Format → Raw
in_format us F10x = I10x (field us 0 0 8)
in_format us F12x = I12x (field us 0 0 8) (field us 0 8 4) (field us 0 12 4)
in_format us F11n = I11n (field us 0 0 8) (field us 0 8 4) (signed 4 (field us 0 12 4))
in_format us F11x = I11x (field us 0 0 8) (field us 0 8 8)
in_format us F10t = I10t (field us 0 0 8) (signed 8 (field us 0 8 8))
in_format us F20t = I20t (field us 0 0 8) (signed 16 (number us 1 1))
in_format us F22x = I22x (field us 0 0 8) (field us 0 8 8) (number us 1 1)
in_format us F21t = I21t (field us 0 0 8) (field us 0 8 8) (signed 16 (number us 1 1))
in_format us F21s = I21s (field us 0 0 8) (field us 0 8 8) (signed 16 (number us 1 1))
in_format us F21h = I21h (field us 0 0 8) (field us 0 8 8) (signed 16 (number us 1 1))
in_format us F21c = I21c (field us 0 0 8) (field us 0 8 8) (number us 1 1)
in_format us F23x = I23x (field us 0 0 8) (field us 0 8 8) (field us 1 0 8) (field us 1 8 8)
in_format us F22b = I22b (field us 0 0 8) (field us 0 8 8) (field us 1 0 8) (signed 8 (field us 1 8 8))
in_format us F22t = I22t (field us 0 0 8) (field us 0 8 4) (field us 0 12 4) (signed 16 (number us 1 1))
in_format us F22s = I22s (field us 0 0 8) (field us 0 8 4) (field us 0 12 4) (signed 16 (number us 1 1))
in_format us F22c = I22c (field us 0 0 8) (field us 0 8 4) (field us 0 12 4) (number us 1 1)
in_format us F30t = I30t (field us 0 0 8) (signed 32 (number us 1 2))
in_format us F32x = I32x (field us 0 0 8) (number us 1 1) (number us 2 1)
in_format us F31i = I31i (field us 0 0 8) (field us 0 8 8) (signed 32 (number us 1 2))
in_format us F31t = I31t (field us 0 0 8) (field us 0 8 8) (signed 32 (number us 1 2))
in_format us F31c = I31c (field us 0 0 8) (field us 0 8 8) (number us 1 2)
in_format us F35c = I35c (field us 0 0 8) (field us 0 12 4) (registers us (field us 0 12 4)) (number us 1 1)
in_format us F3rc = I3rc (field us 0 0 8) (field us 0 8 8) (number us 2 1) (number us 1 1)
in_format us F51l = I51l (field us 0 0 8) (field us 0 8 8) (signed 64 (number us 1 4))

abbrev plain_at : List ℕ → Option Format → Raw
plain_at us None = I10x 0
plain_at us (Some format) = in_format us format

plain_is : (us : List ℕ) (f : Format) (op : ℕ) (r : Raw) → BeginsInsn us f op → r ≡ in_format us f → r ≡ plain_at us (format_at us)
plain_is us f op r b e =
    let k : format_at us ≡ Some f = ap format_of (sym b.opcode) ∙ b.kind in
    e ∙ ap (plain_at us) (sym k)

pub zero_row : format_of 0 ≡ Some F10x
unfolding formats
zero_row = refl

zero_is : (us : List ℕ) (f : Format) (op : ℕ) → BeginsInsn us f op → field us 0 0 8 ≡ 0 → Some f ≡ Some F10x
zero_is us f op b z = sym b.kind ∙ ap format_of (b.opcode ∙ z) ∙ zero_row

-- what is known of an instruction that is no payload
pub record Plain (us : List ℕ) (r : Raw) : Type 0 where
  pub f : Format
  pub op : ℕ
  pub begins : BeginsInsn us f op
  pub not_payload : ¬ IsPayload us
  pub zero : IsTrue (has_zero_byte f) → field us 0 8 8 ≡ 0
  pub count : f ≡ F35c → field us 0 12 4 ≤ 5
  pub same : r ≡ plain_at us (format_at us)
  pub size : units r ≡ units_of f
  pub kind : is_payload r ≡ false

-- the payloads that the units spell, if they spell one
abbrev packed_at : List ℕ → Raw
packed_at us = Packed (signed 32 (number us 2 2)) (slice_range us 8 (8 + 4 * number us 1 1))

abbrev sparse_at : List ℕ → Raw
sparse_at us = Sparse (slice_range us 4 (4 + 4 * number us 1 1)) (slice_range us (4 + 4 * number us 1 1) (4 + 8 * number us 1 1))

abbrev data_at : List ℕ → Raw
data_at us = Data (number us 1 1) (slice_range us 8 (8 + number us 2 2 * number us 1 1))

-- one of four, by the first unit
abbrev by_unit : ℕ → Raw → Raw → Raw → Raw → Raw
by_unit n a b c d = if n == 0x0100 then a else (if n == 0x0200 then b else (if n == 0x0300 then c else d))

-- what the units spell, if they spell anything
abbrev raw_at : List ℕ → Raw
raw_at us = by_unit (number us 0 1) (packed_at us) (sparse_at us) (data_at us) (plain_at us (format_at us))

pub slice-length : (us : List ℕ) (a b : ℕ) → a ≤ b → b ≤ length us → length (slice_range us a b) ≡ b - a
slice-length us a b p q = length-take-le (b - a) (drop a us) (omega (arith, length-drop a us))

-- what is known of a payload
pub record Load (us : List ℕ) (r : Raw) : Type 0 where
  pub identifier : IsPayload us
  pub head : 2 * head_units us ≤ length us
  pub whole : 2 * payload_units us ≤ length us
  pub width : number us 0 1 ≡ 0x0300 → IsElementWidth (number us 1 1)
  pub keys : number us 0 1 ≡ 0x0200 → SwitchKeysRise (slice_range us 4 (4 + 4 * number us 1 1)) (number us 1 1)
  pub same : r ≡ raw_at us
  pub there : (0 < units r) × (2 * units r ≤ length us)
  pub kind : is_payload r ≡ true

by_1 : (a b c d : Raw) (n : ℕ) → n ≡ 0x0100 → by_unit n a b c d ≡ a
by_1 a b c d n e = grind (arith, nat_tests)

by_2 : (a b c d : Raw) (n : ℕ) → n ≡ 0x0200 → by_unit n a b c d ≡ b
by_2 a b c d n e = grind (arith, nat_tests)

by_3 : (a b c d : Raw) (n : ℕ) → n ≡ 0x0300 → by_unit n a b c d ≡ c
by_3 a b c d n e = grind (arith, nat_tests)

by_0 : (a b c d : Raw) (n : ℕ) → n ≢ 0x0100 → n ≢ 0x0200 → n ≢ 0x0300 → by_unit n a b c d ≡ d
by_0 a b c d n p q r = grind (arith, nat_tests)

-- the units of a payload's head, and of all of it, by its kind
pub head-of : (k h a b : ℕ) → h ≡ k → (if h == 3 then a else b) ≡ (if k == 3 then a else b)
head-of k h a b e = rw e refl

pub units-by : (k h p s d : ℕ) → h ≡ k → (if h == 1 then p else (if h == 2 then s else d)) ≡ (if k == 1 then p else (if k == 2 then s else d))
units-by k h p s d e = rw e refl

load_packed : (us : List ℕ) (first : ℤ) (offsets : List ℕ) → SpellsInsn us (Packed first offsets) → Load us (Packed first offsets)
unfolding units is_payload
load_packed us first offsets h =
    let n = h.0 in
    let high : field us 0 8 8 ≡ 1 = omega arith in
    let w : payload_units us ≡ packed_units (number us 1 1) = units-by 1 (field us 0 8 8) (packed_units (number us 1 1)) (sparse_units (number us 1 1)) (data_units (number us 2 2 * number us 1 1)) high in
    let hd : head_units us ≡ 2 = head-of 1 (field us 0 8 8) 4 2 high in
    let first_is = h.2 in let offsets_are = h.3 in let w0 = h.1 in
    let part = slice-length us 8 (8 + 4 * number us 1 1) (omega arith) (omega arith) in let long = ap length h.3 in
    let branch = by_1 (packed_at us) (sparse_at us) (data_at us) (plain_at us (format_at us)) (number us 0 1) n in
    let here : Packed first offsets ≡ packed_at us = cc in
    record {
      identifier = (omega arith, omega arith, omega arith);
      head = omega arith;
      whole = omega arith;
      width = λ e. absurd (omega arith);
      keys = λ e. absurd (omega arith);
      same = here ∙ sym branch;
      there = (omega arith, omega arith);
      kind = refl;
    }

load_sparse : (us : List ℕ) (keys offsets : List ℕ) → SpellsInsn us (Sparse keys offsets) → Load us (Sparse keys offsets)
unfolding units is_payload
load_sparse us keys offsets h =
    let n = h.0 in
    let high : field us 0 8 8 ≡ 2 = omega arith in
    let w : payload_units us ≡ sparse_units (number us 1 1) = units-by 2 (field us 0 8 8) (packed_units (number us 1 1)) (sparse_units (number us 1 1)) (data_units (number us 2 2 * number us 1 1)) high in
    let hd : head_units us ≡ 2 = head-of 2 (field us 0 8 8) 4 2 high in
    let keys_are = h.2 in let offsets_are = h.3 in let w0 = h.1 in
    let part = slice-length us 4 (4 + 4 * number us 1 1) (omega arith) (omega arith) in let long = ap length h.2 in
    let branch = by_2 (packed_at us) (sparse_at us) (data_at us) (plain_at us (format_at us)) (number us 0 1) n in
    let here : Sparse keys offsets ≡ sparse_at us = cc in
    record {
      identifier = (omega arith, omega arith, omega arith);
      head = omega arith;
      whole = omega arith;
      width = λ e. absurd (omega arith);
      keys = λ e. rw (← keys_are) h.4;
      same = here ∙ sym branch;
      there = (omega arith, omega arith);
      kind = refl;
    }

load_data : (us : List ℕ) (width : ℕ) (bytes : List ℕ) → SpellsInsn us (Data width bytes) → Load us (Data width bytes)
unfolding units is_payload
load_data us width bytes h =
    let n = h.0 in
    let high : field us 0 8 8 ≡ 3 = omega arith in
    let w : payload_units us ≡ data_units (number us 2 2 * number us 1 1) = units-by 3 (field us 0 8 8) (packed_units (number us 1 1)) (sparse_units (number us 1 1)) (data_units (number us 2 2 * number us 1 1)) high in
    let hd : head_units us ≡ 4 = head-of 3 (field us 0 8 8) 4 2 high in
    let width_is = h.2 in let w0 = h.1 in
    let part = slice-length us 8 (8 + number us 2 2 * width) (omega arith) (omega arith) in let long = ap length h.4 in
    let bytes_are : bytes ≡ slice_range us 8 (8 + number us 2 2 * number us 1 1) = h.4 ∙ ap (λ v. slice_range us 8 (8 + number us 2 2 * v)) h.2 in
    let fits : 2 * data_units (number us 2 2 * number us 1 1) ≤ length us = rw (← width_is) h.1 in
    let branch = by_3 (packed_at us) (sparse_at us) (data_at us) (plain_at us (format_at us)) (number us 0 1) n in
    let here : Data width bytes ≡ data_at us = cc in
    record {
      identifier = (omega arith, omega arith, omega arith);
      head = omega arith;
      whole = omega arith;
      width = λ e. rw (← width_is) h.3;
      keys = λ e. absurd (omega arith);
      same = here ∙ sym branch;
      there = (omega arith, omega arith);
      kind = refl;
    }

-- an opcode of another format is no payload's first byte
not_zero : (us : List ℕ) (f : Format) (op : ℕ) → BeginsInsn us f op → f ≢ F10x → ¬ IsPayload us
not_zero us f op b other p = let e = zero_is us f op b p.0 in other cc

plain : (us : List ℕ) (f : Format) (op : ℕ) (r : Raw) → (¬ IsPayload us) → BeginsInsn us f op → (IsTrue (has_zero_byte f) → field us 0 8 8 ≡ 0) → (f ≡ F35c → field us 0 12 4 ≤ 5)
    → r ≡ in_format us f → units r ≡ units_of f → is_payload r ≡ false → Plain us r ⊎ Load us r
plain us f op r not_payload b zero count same size kind = inl (record {
  f = f;
  op = op;
  begins = b;
  not_payload = not_payload;
  zero = zero;
  count = count;
  same = plain_is us f op r b same;
  size = size;
  kind = kind;
})

-- each instruction is one or the other
pub known : (us : List ℕ) (r : Raw) → SpellsInsn us r → Plain us r ⊎ Load us r
unfolding units is_payload
known us (I10x op) h = plain us F10x op _ (λ p. omega (arith, p.1)) h.0 (λ _. h.1) (λ e. cc) (let o = h.0.opcode in cc) refl refl
known us (I20t op offset) h = plain us F20t op _ (not_zero us F20t op h.0 (λ e. cc)) h.0 (λ _. h.1) (λ e. cc) (let o = h.0.opcode in cc) refl refl
known us (I30t op offset) h = plain us F30t op _ (not_zero us F30t op h.0 (λ e. cc)) h.0 (λ _. h.1) (λ e. cc) (let o = h.0.opcode in cc) refl refl
known us (I32x op a b) h = plain us F32x op _ (not_zero us F32x op h.0 (λ e. cc)) h.0 (λ _. h.1) (λ e. cc) (let o = h.0.opcode in cc) refl refl
known us (I35c op n regs index) h = plain us F35c op _ (not_zero us F35c op h.0 (λ e. cc)) h.0 (λ t. cc) (λ e. omega arith) (let o = h.0.opcode in cc) refl refl
known us (Packed first offsets) h = inr (load_packed us first offsets h)
known us (Sparse keys offsets) h = inr (load_sparse us keys offsets h)
known us (Data width bytes) h = inr (load_data us width bytes h)
known us _ h = plain us _ _ _ (not_zero us _ _ h.0 (λ e. cc)) h.0 (λ t. cc) (λ e. cc) (let o = h.0.opcode in cc) refl refl

plain_raw : (us : List ℕ) (r : Raw) → Plain us r → r ≡ raw_at us
plain_raw us r p =
    let no = p.not_payload in
    p.same ∙ sym (by_0 _ _ _ _ (number us 0 1) (λ e. no (omega arith, omega arith, omega arith)) (λ e. no (omega arith, omega arith, omega arith)) (λ e. no (omega arith, omega arith, omega arith)))

raw_is : (us : List ℕ) (r : Raw) → SpellsInsn us r → r ≡ raw_at us
raw_is us r h = ⊎_elim (plain_raw us r) (λ (l : Load us r). l.same) (known us r h)

pub once : (us : List ℕ) (x y : Raw) → SpellsInsn us x → SpellsInsn us y → x ≡ y
once us x y p q = raw_is us x p ∙ sym (raw_is us y q)
