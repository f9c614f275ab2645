-- What a linked instruction is like: its names and its operands.
use Rattle.std.proofs.Common.{◌≡◌, ℕ, ℤ, zero, suc, ◌+◌, ◌-◌, ◌*◌, ◌/◌, ◌<◌, ◌≤◌, ◌<ℤ◌, Some, List, length, drop, refl, sym, ap, ◌∙◌, subst, arith, length-take, length-drop}
use Rattle.std.proofs.lemmas.List.{length-map}
use Rattle.std.specs.Prelude.{slice_get, slice_range, FitsSigned, ⊤}
use Rattle.std.specs.Int.{w32}
use Rattle.std.specs.List.{AllByRecursion}
use Rattle.dex_base.specs.Fields.{AreBytes}
use Rattle.dex_insn.specs.Fields.{number, int_at, SwitchKeysRise}
use Rattle.dex_insn.specs.Raw as raw
use Rattle.dex_insn.specs.Raw.{Raw}
use Rattle.dex_insn.specs.RawInsns.{SpellsInsn}
use Rattle.dex_insn.specs.Written.{IsRaw}
use Rattle.dex_insn.proofs.Fits.{number-2, signed-32}
use Rattle.program_types.specs.Content.{Name}
use Rattle.program_types.specs.Formed.{insn_leads}
use Rattle.program_types.specs.Mentions.{names_of_insn}
use Rattle.program_types.specs.Operands.{IsOperand, AreRisingKeys}
use Rattle.code_read.specs.Symbols.{linked, ints, ints_from, InsnNames}
use Rattle.code_read.proofs.LinkLaws.{length-ints_from}
use Rattle.code_read.proofs.Bytes.{all-bytes}
use Rattle.dex_base.proofs.FieldBounds.{drop-AreBytes}
use Rattle.dex_base.proofs.ListFacts.{take_bytes}

-- ---- names

pub names-said : (N : ℕ → Name → Type 0) (T : ℤ → ℕ) (w : Name) (r : Raw) → InsnNames N r w → AllByRecursion (λ which. (k : ℕ) × N k which) (names_of_insn (linked T w r))
unfolding linked
names-said N T w (raw.I21c op a index) n = ((index, n.stands), tt)
names-said N T w (raw.I22c op a b index) n = ((index, n.stands), tt)
names-said N T w (raw.I31c op a index) n = ((index, n.stands), tt)
names-said N T w (raw.I35c op m regs index) n = ((index, n.stands), tt)
names-said N T w (raw.I3rc op m first index) n = ((index, n.stands), tt)
names-said N T w _ n = tt

-- ---- operands

ints-fit : (b : List ℕ) (i n : ℕ) → AreBytes b → AllByRecursion (λ z. FitsSigned w32 z) (ints_from b i n)
ints-fit b i zero are = tt
ints-fit b i (suc n) are = (signed-32 (int_at b i) (number b (2 * i) 2) refl (number-2 b (2 * i) are), ints-fit b (i + 1) n are)

ints-get : (b : List ℕ) (i n x : ℕ) (a : ℤ) → slice_get (ints_from b i n) x ≡ Some a → (x < n) × (a ≡ int_at b (i + x))
ints-get b i zero x a e = absurd cc
ints-get b i (suc n) zero a e = let same : a ≡ int_at b i = cc in let z : i ≡ i + 0 = omega arith in (omega arith, same ∙ ap (int_at b) z)
ints-get b i (suc n) (suc x) a e =
    let r = ints-get b (i + 1) n x a e in
    let l = r.0 in let z : (i + 1) + x ≡ i + suc x = omega arith in
    (omega (arith, l), r.1 ∙ ap (int_at b) z)

rising-keys : (keys : List ℕ) → SwitchKeysRise keys (length keys / 4) → AreRisingKeys (ints keys)
unfolding ints
rising-keys keys h i a b p q =
    let x = ints-get keys 0 (length keys / 4) i a p in
    let y = ints-get keys 0 (length keys / 4) (i + 1) b q in
    let e : 0 + i ≡ i = omega arith in let f : 0 + (i + 1) ≡ i + 1 = omega arith in
    let less : int_at keys i <ℤ int_at keys (i + 1) = h i y.0 in
    subst (λ (z : ℤ). z <ℤ b) (sym (x.1 ∙ ap (int_at keys) e)) (subst (λ (z : ℤ). int_at keys i <ℤ z) (sym (y.1 ∙ ap (int_at keys) f)) less)

-- the elements of a payload are bytes, and few
abbrev pub RawBytes : Raw → Type 0
RawBytes (raw.Sparse keys offsets) = AreBytes keys
RawBytes (raw.Data width bytes) = AreBytes bytes × (length bytes ≤ 4294967295)
RawBytes _ = ⊤

pub slice-bytes : (us : List ℕ) (a b : ℕ) → AreBytes us → AreBytes (slice_range us a b)
slice-bytes us a b are = take_bytes (b - a) (drop a us) (drop-AreBytes us a are)

slice-short : (us : List ℕ) (a b : ℕ) → length (slice_range us a b) ≤ length us
slice-short us a b = omega (arith, length-take (b - a) (drop a us), length-drop a us)

pub raw-bytes : (us : List ℕ) (r : Raw) → AreBytes us → length us ≤ 4294967295 → SpellsInsn us r → RawBytes r
raw-bytes us (raw.Sparse keys offsets) are short h = subst AreBytes (sym h.2) (slice-bytes us 4 (4 + 4 * number us 1 1) are)
raw-bytes us (raw.Data width bytes) are short h = (
  subst AreBytes (sym h.4) (slice-bytes us 8 (8 + number us 2 2 * width) are),
  (let e = ap length h.4 in let l = slice-short us 8 (8 + number us 2 2 * width) in omega (arith, e, l, short)),
)
raw-bytes us _ are short h = tt

-- the operands of a linked instruction are in range where it leads to instructions
pub operand-said : (N : ℕ → Name → Type 0) (T : ℤ → ℕ) (w : Name) (count : ℕ) (r : Raw) → AllByRecursion (λ to. to < count) (insn_leads (linked T w r)) → IsRaw r → RawBytes r → InsnNames N r w → IsOperand count (linked T w r)
unfolding linked ints
operand-said N T w count (raw.I10t op z) t f b n = (f.0, t.0)
operand-said N T w count (raw.I20t op z) t f b n = (f.0, t.0)
operand-said N T w count (raw.I21t op a z) t f b n = (f.0, f.2, t.0)
operand-said N T w count (raw.I22t op a c z) t f b n = (f.0, f.1, f.2, t.0)
operand-said N T w count (raw.I30t op z) t f b n = (f.0, t.0)
operand-said N T w count (raw.I31t op a z) t f b n = (f.0, f.1, t.0)
operand-said N T w count (raw.I21c op a index) t f b n = (f.0, f.2, n.kind)
operand-said N T w count (raw.I22c op a c index) t f b n = (f.0, f.1, f.2, n.kind)
operand-said N T w count (raw.I31c op a index) t f b n = (f.0, f.1, n.kind)
operand-said N T w count (raw.I35c op m regs index) t f b n = (f.0, f.1, f.3, n.kind)
operand-said N T w count (raw.I3rc op m first index) t f b n = (f.0, f.2, f.3, n.kind)
operand-said N T w count (raw.Packed first offsets) t f b n =
    let m = length-map (ints_from offsets 0 (length offsets / 4)) T in
    let k = length-ints_from offsets 0 (length offsets / 4) in
    let few = f.2 in
    (f.0, omega (arith, m, k, few), t)
operand-said N T w count (raw.Sparse keys offsets) t f b n =
    let m = length-map (ints_from offsets 0 (length offsets / 4)) T in
    let k = length-ints_from offsets 0 (length offsets / 4) in
    let j = length-ints_from keys 0 (length keys / 4) in
    let same = f.1 in let few = f.2 in
    (omega (arith, m, k, j, same), omega (arith, m, k, same, few), ints-fit keys 0 (length keys / 4) b, rising-keys keys f.3, t)
operand-said N T w count (raw.Data width bytes) t f b n = (f.0, f.1, b.1, all-bytes bytes b.0)
operand-said N T w count _ t f b n = f
