-- By formats: what is written of an instruction whose index is replaced is its units, with the index replaced.
use Rattle.std.proofs.Common.{◌≡◌, ℕ, zero, suc, ◌+◌, ◌-◌, ◌*◌, ◌/◌, ◌%◌, ◌<◌, ◌≤◌, ◌++◌, List, [], ◌∷◌, length, take, drop, Some, refl, sym, ap, subst, ◌∙◌, arith, append_assoc, if◌then◌else◌, ◌==◌, false, true, ◌⊎◌, ⊎_elim}
use Rattle.std.specs.Prelude.{set}
use Rattle.std.specs.Int.{cast_unsigned, w8, w16, w32, w64}
use Rattle.std.proofs.Math.Seq.{take-add}
use Rattle.dex_base.specs.Fields.{AreBytes, u32_bytes}
use Rattle.dex_insn.specs.Fields.{number, field}
use Rattle.dex_insn.specs.Opcodes.{format_of, index_kind_of}
use Rattle.dex_insn.specs.Raw as raw
use Rattle.dex_insn.specs.Raw.{Raw, units, is_payload}
use Rattle.dex_insn.specs.RawInsns.{SpellsInsn, BeginsInsn, IsPayload}
use Rattle.dex_insn.specs.Written.{IsRaw, written, bytes_of}
use Rattle.dex_insn.specs.declared.opcode.Format.{Format}
use Rattle.dex_insn.proofs.Fits.{number-1, number-2, number-4}
use Rattle.dex_insn.proofs.StandingLaws.{not-payload, is-payload}
use Rattle.dex_insn.proofs.Unique.{slice-length}
use Rattle.file_renumber.specs.inner.Marked.{Columns}
use Rattle.file_renumber.specs.declared.shapes.Shape.TheVariants.{Plain, Short, Long, Five, Payload}
use Rattle.file_renumber.specs.inner.Renumbered.{number_in, renumbered, HasNumber, HasShortNumber, IsNumbered, CanBeRenumbered}
use Rattle.file_renumber.specs.inner.Shapes.{shape_in, shape_of}
use Rattle.file_renumber.specs.inner.InPlace.{with_named, is_padded, with_pad, IsRenumbered}
use Rattle.file_renumber.proofs.BytesLemmas.{nibble_bits, byte_bits, wide_byte_bits, half_bits, wide_half_bits, word_bits, long_bits, kept_1, kept_2, kept_3, kept_long, kept_wide, short_2, short_3, long_3, five_3, head_4, head_8, joined_again, replaced, by_width}
use Rattle.dex_base.proofs.ListFacts.{by_kind}

-- ---- no index

-- what is written of an instruction without an index is its units
plain_kept : (us : List ℕ) (n : ℕ) (r : Raw) → AreBytes us → SpellsInsn us r → shape_of r ≡ Plain n → written r ++ drop (2 * units r) us ≡ us
unfolding written units
plain_kept us n (raw.I10x op) are s e = kept_1 us op are (omega (arith, s.0.whole)) (omega (arith, number-1 us 0 are, s.0.opcode, s.1))
plain_kept us n (raw.I12x op a b) are s e = kept_1 us (op + 256 * a + 4096 * b) are (omega (arith, s.0.whole)) (omega (arith, number-1 us 0 are, s.0.opcode, s.1, s.2))
plain_kept us n (raw.I11n op a b) are s e =
    let k : cast_unsigned w8 b % 16 ≡ field us 0 12 4 = ap (λ z. cast_unsigned w8 z % 16) s.2 ∙ nibble_bits (field us 0 12 4) (omega arith) in
    kept_1 us (op + 256 * a + 4096 * (cast_unsigned w8 b % 16)) are (omega (arith, s.0.whole)) (omega (arith, number-1 us 0 are, s.0.opcode, s.1, k))
plain_kept us n (raw.I11x op a) are s e = kept_1 us (op + 256 * a) are (omega (arith, s.0.whole)) (omega (arith, number-1 us 0 are, s.0.opcode, s.1))
plain_kept us n (raw.I10t op offset) are s e =
    let k : cast_unsigned w32 offset % 256 ≡ field us 0 8 8 = ap (λ z. cast_unsigned w32 z % 256) s.1 ∙ wide_byte_bits (field us 0 8 8) (omega arith) in
    kept_1 us (op + 256 * (cast_unsigned w32 offset % 256)) are (omega (arith, s.0.whole)) (omega (arith, number-1 us 0 are, s.0.opcode, k))
plain_kept us n (raw.I20t op offset) are s e = kept_2 us op (cast_unsigned w32 offset % 65536) are (omega (arith, s.0.whole)) (omega (arith, number-1 us 0 are, s.0.opcode, s.1)) (ap (λ z. cast_unsigned w32 z % 65536) s.2 ∙ wide_half_bits (number us 1 1) (number-1 us 1 are))
plain_kept us n (raw.I22x op a b) are s e = kept_2 us (op + 256 * a) b are (omega (arith, s.0.whole)) (omega (arith, number-1 us 0 are, s.0.opcode, s.1)) s.2
plain_kept us n (raw.I21t op a offset) are s e = kept_2 us (op + 256 * a) (cast_unsigned w32 offset % 65536) are (omega (arith, s.0.whole)) (omega (arith, number-1 us 0 are, s.0.opcode, s.1)) (ap (λ z. cast_unsigned w32 z % 65536) s.2 ∙ wide_half_bits (number us 1 1) (number-1 us 1 are))
plain_kept us n (raw.I21s op a b) are s e = kept_2 us (op + 256 * a) (cast_unsigned w16 b) are (omega (arith, s.0.whole)) (omega (arith, number-1 us 0 are, s.0.opcode, s.1)) (ap (cast_unsigned w16) s.2 ∙ half_bits (number us 1 1) (number-1 us 1 are))
plain_kept us n (raw.I21h op a b) are s e = kept_2 us (op + 256 * a) (cast_unsigned w16 b) are (omega (arith, s.0.whole)) (omega (arith, number-1 us 0 are, s.0.opcode, s.1)) (ap (cast_unsigned w16) s.2 ∙ half_bits (number us 1 1) (number-1 us 1 are))
plain_kept us n (raw.I23x op a b c) are s e = kept_2 us (op + 256 * a) (b + 256 * c) are (omega (arith, s.0.whole)) (omega (arith, number-1 us 0 are, s.0.opcode, s.1)) (omega (arith, s.2, s.3, number-1 us 1 are))
plain_kept us n (raw.I22b op a b c) are s e =
    let k : cast_unsigned w8 c ≡ field us 1 8 8 = ap (cast_unsigned w8) s.3 ∙ byte_bits (field us 1 8 8) (omega arith) in
    kept_2 us (op + 256 * a) (b + 256 * cast_unsigned w8 c) are (omega (arith, s.0.whole)) (omega (arith, number-1 us 0 are, s.0.opcode, s.1)) (omega (arith, s.2, k, number-1 us 1 are))
plain_kept us n (raw.I22t op a b offset) are s e = kept_2 us (op + 256 * a + 4096 * b) (cast_unsigned w32 offset % 65536) are (omega (arith, s.0.whole)) (omega (arith, number-1 us 0 are, s.0.opcode, s.1, s.2)) (ap (λ z. cast_unsigned w32 z % 65536) s.3 ∙ wide_half_bits (number us 1 1) (number-1 us 1 are))
plain_kept us n (raw.I22s op a b c) are s e = kept_2 us (op + 256 * a + 4096 * b) (cast_unsigned w16 c) are (omega (arith, s.0.whole)) (omega (arith, number-1 us 0 are, s.0.opcode, s.1, s.2)) (ap (cast_unsigned w16) s.3 ∙ half_bits (number us 1 1) (number-1 us 1 are))
plain_kept us n (raw.I30t op offset) are s e = kept_long us op (cast_unsigned w32 offset) are (omega (arith, s.0.whole)) (omega (arith, number-1 us 0 are, s.0.opcode, s.1)) (ap (cast_unsigned w32) s.2 ∙ word_bits (number us 1 2) (number-2 us 1 are))
plain_kept us n (raw.I32x op a b) are s e = kept_3 us op a b are (omega (arith, s.0.whole)) (omega (arith, number-1 us 0 are, s.0.opcode, s.1)) s.2 s.3
plain_kept us n (raw.I31i op a b) are s e = kept_long us (op + 256 * a) (cast_unsigned w32 b) are (omega (arith, s.0.whole)) (omega (arith, number-1 us 0 are, s.0.opcode, s.1)) (ap (cast_unsigned w32) s.2 ∙ word_bits (number us 1 2) (number-2 us 1 are))
plain_kept us n (raw.I31t op a offset) are s e = kept_long us (op + 256 * a) (cast_unsigned w32 offset) are (omega (arith, s.0.whole)) (omega (arith, number-1 us 0 are, s.0.opcode, s.1)) (ap (cast_unsigned w32) s.2 ∙ word_bits (number us 1 2) (number-2 us 1 are))
plain_kept us n (raw.I51l op a b) are s e = kept_wide us (op + 256 * a) (cast_unsigned w64 b) are (omega (arith, s.0.whole)) (omega (arith, number-1 us 0 are, s.0.opcode, s.1)) (ap (cast_unsigned w64) s.2 ∙ long_bits (number us 1 4) (number-4 us 1 are))
plain_kept us n _ are s e = absurd cc

pub plain_size : (r : Raw) (n : ℕ) → shape_of r ≡ Plain n → n ≡ units r
unfolding units
plain_size (raw.I21c op a index) n e = absurd cc
plain_size _ n e = cc

plain_same : (numbers : Columns) (r : Raw) (n : ℕ) → shape_of r ≡ Plain n → renumbered numbers r ≡ r
plain_same numbers (raw.I21c op a index) n e = absurd cc
plain_same numbers _ n e = cc

pub plain_done : (numbers : Columns) (us : List ℕ) (n : ℕ) (r : Raw) → AreBytes us → SpellsInsn us r → IsRaw r → shape_of r ≡ Plain n → IsRenumbered numbers us us n r
plain_done numbers us n r are s fits e =
    let same = plain_same numbers r n e in
    record { size = plain_size r n e; is_new = sym (ap (λ (x : Raw). written x ++ drop (2 * units r) us) same ∙ plain_kept us n r are s e); fits = subst IsRaw (sym same) fits }

-- ---- an index in the second unit

same_number : (numbers : Columns) (o i op index : ℕ) → op ≡ o → index ≡ i → number_in numbers (index_kind_of o) i ≡ number_in numbers (index_kind_of op) index
same_number numbers o i op index p q = ap (λ (x : ℕ). number_in numbers (index_kind_of x) i) (sym p) ∙ ap (λ (x : ℕ). number_in numbers (index_kind_of op) x) (sym q)

moved_short : (numbers : Columns) (o i op index : ℕ) → op ≡ o → index ≡ i → HasShortNumber numbers op index → HasShortNumber numbers o i
moved_short numbers o i op index p q h = subst (λ (x : ℕ). HasShortNumber numbers o x) q (subst (λ (x : ℕ). HasShortNumber numbers x index) p h)

-- its size, and that its row has a number
pub record IsShort (numbers : Columns) (us : List ℕ) (n o i : ℕ) : Type 0 where
  pub whole : 4 ≤ length us
  pub has : HasShortNumber numbers o i

-- the units with these two bytes in the second
abbrev pub with_short : List ℕ → ℕ → List ℕ
with_short us x = set (set us 2 (x % 256)) 3 (x / 256)

module _ (numbers : Columns) (us : List ℕ) (o i : ℕ) (low_is : o ≡ field us 0 0 8) where
  pub is_short : (n : ℕ) (r : Raw) → i ≡ number us 1 1 → SpellsInsn us r → IsNumbered numbers r → shape_of r ≡ Short n → IsShort numbers us n o i
  is_short n (raw.I21c op a index) at s can e = let w = s.0.whole in record { whole = omega (arith, w); has = moved_short numbers o i op index (s.0.opcode ∙ sym low_is) (s.2 ∙ sym at) can }
  is_short n (raw.I22c op a b index) at s can e = let w = s.0.whole in record { whole = omega (arith, w); has = moved_short numbers o i op index (s.0.opcode ∙ sym low_is) (s.3 ∙ sym at) can }
  is_short n (raw.I3rc op k first index) at s can e = let w = s.0.whole in record { whole = omega (arith, w); has = moved_short numbers o i op index (s.0.opcode ∙ sym low_is) (s.2 ∙ sym at) can }
  is_short n _ at s can e = absurd cc

  pub short_done : (n : ℕ) (r : Raw) → i ≡ number us 1 1 → AreBytes us → SpellsInsn us r → CanBeRenumbered numbers r → shape_of r ≡ Short n → IsRenumbered numbers us (with_short us (number_in numbers (index_kind_of o) i)) n r
  unfolding written units
  short_done n (raw.I21c op a index) at are s can e =
      record {
        size = cc;
        is_new = ap (with_short us) (same_number numbers o i op index (s.0.opcode ∙ sym low_is) (s.2 ∙ sym at)) ∙ sym (short_2 us (op + 256 * a) (number_in numbers (index_kind_of op) index) are (omega (arith, s.0.whole)) (omega (arith, number-1 us 0 are, s.0.opcode, s.1)) can.numbered.short);
        fits = (can.fits.0, can.numbered.short, can.fits.2);
      }
  short_done n (raw.I22c op a b index) at are s can e =
      record {
        size = cc;
        is_new = ap (with_short us) (same_number numbers o i op index (s.0.opcode ∙ sym low_is) (s.3 ∙ sym at)) ∙ sym (short_2 us (op + 256 * a + 4096 * b) (number_in numbers (index_kind_of op) index) are (omega (arith, s.0.whole)) (omega (arith, number-1 us 0 are, s.0.opcode, s.1, s.2)) can.numbered.short);
        fits = (can.fits.0, can.fits.1, can.fits.2, can.numbered.short);
      }
  short_done n (raw.I3rc op k first index) at are s can e =
      record {
        size = cc;
        is_new = ap (with_short us) (same_number numbers o i op index (s.0.opcode ∙ sym low_is) (s.2 ∙ sym at)) ∙ sym (short_3 us (op + 256 * k) (number_in numbers (index_kind_of op) index) first are (omega (arith, s.0.whole)) (omega (arith, number-1 us 0 are, s.0.opcode, s.1)) can.numbered.short s.3);
        fits = (can.fits.0, can.numbered.short, can.fits.2, can.fits.3);
      }
  short_done n _ at are s can e = absurd cc

  -- ---- an index in two units

  pub long_has : (r : Raw) → i ≡ number us 1 2 → SpellsInsn us r → IsNumbered numbers r → shape_of r ≡ Long → (6 ≤ length us) × HasNumber numbers o i
  long_has (raw.I31c op a index) at s can e =
      (omega (arith, s.0.whole), subst (λ (x : ℕ). HasNumber numbers o x) (s.2 ∙ sym at) (subst (λ (x : ℕ). HasNumber numbers x index) (s.0.opcode ∙ sym low_is) can))
  long_has _ at s can e = absurd cc

  pub long_done : (r : Raw) → i ≡ number us 1 2 → AreBytes us → SpellsInsn us r → CanBeRenumbered numbers r → shape_of r ≡ Long → (x : ℕ) → x ≡ number_in numbers (index_kind_of o) i → x < 4294967296
      → IsRenumbered numbers us (take 2 us ++ (u32_bytes x ++ drop 6 us)) 3 r
  unfolding written units
  long_done (raw.I31c op a index) at are s can e x is fits =
      let same : x ≡ number_in numbers (index_kind_of op) index = is ∙ same_number numbers o i op index (s.0.opcode ∙ sym low_is) (s.2 ∙ sym at) in
      record {
        size = refl;
        is_new = sym (long_3 us (op + 256 * a) x are (omega (arith, s.0.whole)) (omega (arith, number-1 us 0 are, s.0.opcode, s.1)) fits) ∙ ap (λ (z : ℕ). bytes_of ((op + 256 * a) ∷ z % 65536 ∷ z / 65536 ∷ []) ++ drop 6 us) same;
        fits = (can.fits.0, can.fits.1, subst (λ (z : ℕ). z < 4294967296) same fits);
      }
  long_done _ at are s can e x is fits = absurd cc

  -- ---- format 35c

  pub five_has : (r : Raw) → i ≡ number us 1 1 → SpellsInsn us r → IsNumbered numbers r → shape_of r ≡ Five → (6 ≤ length us) × HasShortNumber numbers o i
  five_has (raw.I35c op n regs index) at s can e = let w = s.0.whole in (omega (arith, w), moved_short numbers o i op index (s.0.opcode ∙ sym low_is) (s.3 ∙ sym at) can)
  five_has _ at s can e = absurd cc

  pub five_done : (r : Raw) → i ≡ number us 1 1 → AreBytes us → SpellsInsn us r → CanBeRenumbered numbers r → shape_of r ≡ Five
      → IsRenumbered numbers us (with_short (with_named us (field us 0 12 4)) (number_in numbers (index_kind_of o) i)) 3 r
  unfolding written units
  five_done (raw.I35c op n regs index) at are s can e =
      let y = number_in numbers (index_kind_of op) index in
      let base = five_3 us op n y are (omega (arith, s.0.whole)) s.0.opcode s.2 can.numbered.short in
      let named : with_named us (field us 0 12 4) ≡ with_named us n = ap (with_named us) (sym s.1) in
      let number_is = same_number numbers o i op index (s.0.opcode ∙ sym low_is) (s.3 ∙ sym at) in
      record {
        size = refl;
        is_new = ap (λ (z : List ℕ). with_short z (number_in numbers (index_kind_of o) i)) named ∙ ap (with_short (with_named us n)) number_is ∙ sym base
            ∙ sym (ap (λ (rs : List ℕ). written (raw.I35c op n rs y) ++ drop 6 us) s.4);
        fits = (can.fits.0, can.fits.1, can.numbered.short, can.fits.3);
      }
  five_done _ at are s can e = absurd cc

-- ---- payloads

-- a head, a body and the rest
part_again : (us head body : List ℕ) (k m e : ℕ) → head ≡ take k us → body ≡ take m (drop k us) → e ≡ k + m → (head ++ body) ++ drop e us ≡ us
part_again us head body k m e p q r =
    append_assoc head body (drop e us) ∙ ap (λ (x : List ℕ). x ++ (body ++ drop e us)) p ∙ ap (λ (x : List ℕ). take k us ++ (x ++ drop e us)) q
    ∙ ap (λ (x : ℕ). take k us ++ (take m (drop k us) ++ drop x us)) r ∙ joined_again us k m

part_more : (us head body : List ℕ) (k m : ℕ) → head ≡ take k us → body ≡ take m (drop k us) → head ++ body ≡ take (k + m) us
part_more us head body k m p q = ap (λ (x : List ℕ). x ++ body) p ∙ ap (λ (x : List ℕ). take k us ++ x) q ∙ sym (take-add k m us)

padded : (us : List ℕ) (k n r : ℕ) → r < 2 → 2 * n ≡ k + r → 2 * n ≤ length us → with_pad us (r == 1) n ≡ take k us ++ ((if r == 0 then [] else 0 ∷ []) ++ drop (2 * n) us)
padded us k n zero l p w = sym (joined_again us k 0) ∙ ap (λ (x : ℕ). take k us ++ drop x us) (sym p)
padded us k n (suc zero) l p w =
    let at : 2 * n - 1 ≡ k = omega (arith, p) in
    ap (λ (x : ℕ). set us x 0) at ∙ sym (replaced us k 0 (omega (arith, p, w))) ∙ ap (λ (x : ℕ). take k us ++ (0 ∷ drop x us)) (sym p)
padded us k n (suc (suc r)) l p w = absurd (omega (arith, l))

data_again : (us head body pad rest : List ℕ) (k : ℕ) → head ++ body ≡ take k us → take k us ++ (pad ++ rest) ≡ (head ++ (body ++ pad)) ++ rest
data_again us head body pad rest k e =
    ap (λ (x : List ℕ). x ++ (pad ++ rest)) (sym e) ∙ sym (append_assoc (head ++ body) pad rest) ∙ ap (λ (x : List ℕ). x ++ rest) (append_assoc head body pad)

pub payload_done : (numbers : Columns) (us : List ℕ) (n : ℕ) (r : Raw) → AreBytes us → SpellsInsn us r → IsRaw r → shape_of r ≡ Payload → n ≡ units r → IsRenumbered numbers us (with_pad us (is_padded r) (units r)) n r
unfolding written units
payload_done numbers us n (raw.Packed first offsets) are s fits e size =
    let w = s.1 in
    let m = 4 * number us 1 1 in
    let long : length offsets ≡ m = ap length s.3 ∙ slice-length us 8 (8 + m) (omega arith) (omega (arith, w)) ∙ omega arith in
    let body : offsets ≡ take m (drop 8 us) = s.3 ∙ ap (λ (k : ℕ). take k (drop 8 us)) (let k : 8 + m - 8 ≡ m = omega arith in k) in
    let count : length offsets / 4 ≡ number us 1 1 = omega (arith, long) in
    let front = head_8 us 256 (length offsets / 4) (cast_unsigned w32 first) are (omega (arith, w)) (sym s.0) count (ap (cast_unsigned w32) s.2 ∙ word_bits (number us 2 2) (number-2 us 2 are)) in
    record { size = size; is_new = sym (part_again us _ offsets 8 m (2 * (4 + 2 * (length offsets / 4))) front body (omega (arith, count))); fits = fits }
payload_done numbers us n (raw.Sparse keys offsets) are s fits e size =
    let w = s.1 in
    let m = 4 * number us 1 1 in
    let long : length keys ≡ m = ap length s.2 ∙ slice-length us 4 (4 + m) (omega arith) (omega (arith, w)) ∙ omega arith in
    let first : keys ≡ take m (drop 4 us) = s.2 ∙ ap (λ (k : ℕ). take k (drop 4 us)) (let k : 4 + m - 4 ≡ m = omega arith in k) in
    let second : offsets ≡ take m (drop (4 + m) us) = s.3 ∙ ap (λ (k : ℕ). take k (drop (4 + m) us)) (let k : 4 + 8 * number us 1 1 - (4 + m) ≡ m = omega arith in k) in
    let count : length keys / 4 ≡ number us 1 1 = omega (arith, long) in
    let front = head_4 us 512 (length keys / 4) are (omega (arith, w)) (sym s.0) count in
    let more = part_more us _ keys 4 m front first in
    record {
      size = size;
      is_new = sym (ap (λ (x : List ℕ). x ++ drop (2 * (2 + 4 * (length keys / 4))) us) (sym (append_assoc (bytes_of (512 ∷ (length keys / 4) ∷ [])) keys offsets))
          ∙ part_again us (bytes_of (512 ∷ (length keys / 4) ∷ []) ++ keys) offsets (4 + m) m (2 * (2 + 4 * (length keys / 4))) more second (omega (arith, count)));
      fits = fits;
    }
payload_done numbers us n (raw.Data width bytes) are s fits e size =
    let w = s.1 in
    let m = number us 2 2 * width in
    let long : length bytes ≡ m = ap length s.4 ∙ slice-length us 8 (8 + m) (omega arith) (omega (arith, w)) ∙ omega arith in
    let body : bytes ≡ take m (drop 8 us) = s.4 ∙ ap (λ (k : ℕ). take k (drop 8 us)) (let k : 8 + m - 8 ≡ m = omega arith in k) in
    let count : length bytes / width ≡ number us 2 2 = ap (λ (k : ℕ). k / width) long ∙ by_width (number us 2 2) width s.3 in
    let H : List ℕ = bytes_of (768 ∷ width ∷ (length bytes / width % 65536) ∷ (length bytes / width / 65536) ∷ []) in
    let front = head_8 us 768 width (length bytes / width) are (omega (arith, w)) (sym s.0) s.2 count in
    let more = part_more us H bytes 8 (length bytes) front (body ∙ ap (λ (k : ℕ). take k (drop 8 us)) (sym long)) in
    let pads = padded us (8 + length bytes) (4 + (length bytes + 1) / 2) (length bytes % 2) (omega arith) (omega arith) (omega (arith, long, w)) in
    record { size = size; is_new = pads ∙ data_again us H bytes (if length bytes % 2 == 0 then [] else 0 ∷ []) (drop (2 * (4 + (length bytes + 1) / 2)) us) (8 + length bytes) more; fits = fits }
payload_done numbers us n _ are s fits e size = absurd cc

-- ---- by the first unit

payload_shape : (r : Raw) → is_payload r ≡ true → shape_of r ≡ Payload
unfolding is_payload
payload_shape (raw.Packed first offsets) e = refl
payload_shape _ e = cc

by_format : (us : List ℕ) (op : ℕ) (f : Format) → BeginsInsn us f op → shape_in (format_of (field us 0 0 8)) ≡ shape_in (Some f)
by_format us op f b = ap shape_in (ap format_of (sym b.opcode) ∙ b.kind)

plain_shape : (us : List ℕ) (r : Raw) → SpellsInsn us r → is_payload r ≡ false → shape_in (format_of (field us 0 0 8)) ≡ shape_of r
unfolding is_payload units
plain_shape us (raw.Packed first offsets) s e = absurd cc
plain_shape us (raw.Sparse keys offsets) s e = absurd cc
plain_shape us (raw.Data width bytes) s e = absurd cc
plain_shape us _ s e = by_format us _ _ s.0

pub of_payload : (us : List ℕ) (r : Raw) → SpellsInsn us r → IsPayload us → shape_of r ≡ Payload
of_payload us r s p = ⊎_elim (λ (e : is_payload r ≡ true). payload_shape r e) (λ (e : is_payload r ≡ false). absurd (not-payload us r s e p)) (by_kind (is_payload r))

pub of_format : (us : List ℕ) (r : Raw) → SpellsInsn us r → (IsPayload us → ⊥) → shape_in (format_of (field us 0 0 8)) ≡ shape_of r
of_format us r s p = ⊎_elim (λ (e : is_payload r ≡ true). absurd (p (is-payload us r s e))) (λ (e : is_payload r ≡ false). plain_shape us r s e) (by_kind (is_payload r))
