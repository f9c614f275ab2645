-- Instructions whose operands fit their formats are written.
use Rattle.std.proofs.Common.{◌≡◌, ℕ, zero, suc, ◌+◌, ◌-◌, ◌<◌, ◌≤◌, ◌^◌, ℤ, pos, negsuc, neg_ℤ, ◌≤ℤ◌, ◌<ℤ◌, List, [], ◌∷◌, ◌++◌, length, get_or, take, drop, replicate, map, Option, Some, refl, ap, arith}
use Rattle.std.specs.Prelude.{FitsSigned}
use Rattle.std.specs.Int.{w8, w16, w32, w64}
use Rattle.std.specs.List.{AllByRecursion}
use Rattle.std.proofs.lemmas.Int.{ints}
use Rattle.dex_insn.specs.RawInsns.{IsElementWidth}
use Rattle.dex_insn.specs.Opcodes.{index_kind_of}
use Rattle.dex_insn.specs.declared.opcode.IndexKind.{IndexKind}
use Rattle.dex_insn.specs.declared.opcode.IndexKind.TheVariants as index
use Rattle.program_types.specs.Content as content
use Rattle.program_types.specs.Content.{Insn, Name, OfText, OfDesc, OfField, OfMethod}
use Rattle.program_types.specs.Mentions.{names_of_insn}
use Rattle.program_types.specs.Operands.{IsOfIndexKind, IsOperand}
use Rattle.listing_slots.specs.Slots.{IsSignedWithin}
use Rattle.listing_slots.specs.Shapes.{name_slot}
use Rattle.listing_lines.specs.Needs.{insn_needs, most_needed}
use Rattle.listing_print.specs.Operands.{Operand, insn_operands, name_operand, v4, to, keyword, pair_operands, element_operands}
use Rattle.listing_print.specs.inner.Reading.{FitOperands, OpcodeFits, IsNameOfOpcode}
use Rattle.listing_slots.specs.declared.key.Key.TheVariants as key
use Rattle.listing_laws.proofs.NameFits.{IsNamed, name_fits}

-- ---- numbers

bits4 : (a : ℕ) → a < 16 → (a ≤ 15) × (a < 2 ^ 64)
bits4 a h = (omega arith, omega arith)

bits8 : (a : ℕ) → a < 256 → (a ≤ 255) × (a < 2 ^ 64)
bits8 a h = (omega arith, omega arith)

bits16 : (a : ℕ) → a < 65536 → (a ≤ 65535) × (a < 2 ^ 64)
bits16 a h = (omega arith, omega arith)

pub target_fits : (count k : ℕ) → count ≤ 2147483647 → k ≤ count → (k ≤ 4294967295) × (k < 2 ^ 64)
target_fits count k l h = (omega arith, omega arith)

nibble : (z : ℤ) → neg_ℤ (pos 8) ≤ℤ z → z <ℤ pos 8 → IsSignedWithin 7 z
nibble (pos n) a b = omega (arith, ints)
nibble (negsuc n) a b = omega (arith, ints)

pub signed8 : (z : ℤ) → FitsSigned w8 z → IsSignedWithin 127 z
signed8 (pos n) h = omega (arith, ints)
signed8 (negsuc n) h = omega (arith, ints)

pub signed16 : (z : ℤ) → FitsSigned w16 z → IsSignedWithin 32767 z
signed16 (pos n) h = omega (arith, ints)
signed16 (negsuc n) h = omega (arith, ints)

pub signed32 : (z : ℤ) → FitsSigned w32 z → IsSignedWithin 2147483647 z
signed32 (pos n) h = omega (arith, ints)
signed32 (negsuc n) h = omega (arith, ints)

pub signed64 : (z : ℤ) → FitsSigned w64 z → IsSignedWithin 9223372036854775807 z
signed64 (pos n) h = omega (arith, ints)
signed64 (negsuc n) h = omega (arith, ints)

-- ---- names of a kind

kind_fits : (o : Option IndexKind) (which : Name) → IsOfIndexKind o which → (name_operand which).slot ≡ name_slot o
kind_fits (Some index.String) (OfText us) h = refl
kind_fits (Some index.Type) (OfDesc d) h = refl
kind_fits (Some index.Field) (OfField f) h = refl
kind_fits (Some index.Method) (OfMethod m) h = refl
kind_fits _ _ h = absurd h

kind_is : (op : ℕ) (which : Name) → IsOfIndexKind (index_kind_of op) which → IsNameOfOpcode op which
kind_is op which h = kind_fits (index_kind_of op) which h

-- ---- lists of operands

pub operands_append : (os ps : List Operand) → FitOperands os → FitOperands ps → FitOperands (os ++ ps)
operands_append [] ps f g = g
operands_append (o ∷ os) ps f g = (f.0, operands_append os ps f.1 g)

registers_fit : (n : ℕ) (regs : List ℕ) → ((k : ℕ) → k < n → get_or regs k 0 < 16) → FitOperands (map v4 (take n regs))
registers_fit zero regs h = tt
registers_fit (suc n) [] h = tt
registers_fit (suc n) (r ∷ rs) h = (bits4 r (h 0 (omega arith)), registers_fit n rs (λ k l. h (suc k) (omega arith)))

zeros : (m n : ℕ) (regs : List ℕ) → ((k : ℕ) → n ≤ k → get_or regs k 0 ≡ 0) → m + n ≡ length regs → drop n regs ≡ replicate m 0
zeros zero zero [] h e = refl
zeros (suc m) zero (r ∷ rs) h e = rw (h 0 (omega arith)) (ap (λ t. 0 ∷ t) (zeros m zero rs (λ k l. h (suc k) (omega arith)) (omega arith)))
zeros m (suc n) (r ∷ rs) h e = zeros m n rs (λ k l. h (suc k) (omega arith)) (omega arith)
zeros _ _ _ h e = absurd (omega arith)

targets_fit : (count : ℕ) (ts : List ℕ) → count ≤ 2147483647 → AllByRecursion (λ to. to < count) ts → FitOperands (map to ts)
targets_fit count [] l h = tt
targets_fit count (t ∷ ts) l h = (target_fits count t l (omega (arith, h.0)), targets_fit count ts l h.1)

pairs_fit : (count : ℕ) (ks : List ℤ) (ts : List ℕ) → count ≤ 2147483647 → AllByRecursion (λ key. FitsSigned w32 key) ks → AllByRecursion (λ to. to < count) ts → FitOperands (pair_operands ks ts)
pairs_fit count [] ts l h g = tt
pairs_fit count (k ∷ ks) [] l h g = tt
pairs_fit count (k ∷ ks) (t ∷ ts) l h g = (signed32 k h.0, (target_fits count t l (omega (arith, g.0)), pairs_fit count ks ts l h.1 g.1))

most_fits : (count : ℕ) (ts : List ℕ) → AllByRecursion (λ to. to < count) ts → most_needed ts ≤ count
most_fits count [] h = omega arith
most_fits count (t ∷ ts) h = let m = most_fits count ts h.1 in let a = h.0 in omega arith

elements_fit : (bytes : List ℕ) → AllByRecursion (λ byte. byte < 256) bytes → FitOperands (element_operands bytes)
elements_fit [] h = tt
elements_fit (b ∷ bytes) h = ((omega arith, h), tt)

width_fits : (width : ℕ) → IsElementWidth width → (width ≤ 65535) × (width < 2 ^ 64)
width_fits width h = (grind arith, grind arith)

-- ---- an instruction

-- its opcode and its words fit, and its targets are below the count
abbrev pub Fits : ℕ → Insn → Type 0
Fits count i = OpcodeFits i × FitOperands (insn_operands i) × (insn_needs i ≤ count)

registers_written : (count op n : ℕ) (regs : List ℕ) (which : Name) → IsOperand count (content.I35c op n regs which) → IsNamed which → Fits count (content.I35c op n regs which)
registers_written count op n regs which h w =
    let r = h.2 in
    let z : drop n regs ≡ replicate (5 - n) 0 = zeros (5 - n) n regs r.unused (let c = r.count in let l = h.1 in omega arith) in (
      (h.0, kind_is op which h.3, h.1, r.count, z),
      (refl, operands_append (map v4 (take n regs)) (keyword key.Close ∷ name_operand which ∷ []) (registers_fit n regs r.fit) (refl, (name_fits which w, tt))),
      omega arith,
    )

pub insn_fits : (count : ℕ) (i : Insn) → count ≤ 2147483647 → IsOperand count i → AllByRecursion IsNamed (names_of_insn i) → Fits count i
insn_fits count (content.I10x op) l h w = (h, tt, omega arith)
insn_fits count (content.I12x op a b) l h w = (h.0, (bits4 a h.1, (bits4 b h.2, tt)), omega arith)
insn_fits count (content.I11n op a b) l h w = (h.0, (bits4 a h.1, (nibble b h.2 h.3, tt)), omega arith)
insn_fits count (content.I11x op a) l h w = (h.0, (bits8 a h.1, tt), omega arith)
insn_fits count (content.I10t op k) l h w = let t = h.1 in (h.0, (target_fits count k l (omega arith), tt), omega arith)
insn_fits count (content.I20t op k) l h w = let t = h.1 in (h.0, (target_fits count k l (omega arith), tt), omega arith)
insn_fits count (content.I30t op k) l h w = let t = h.1 in (h.0, (target_fits count k l (omega arith), tt), omega arith)
insn_fits count (content.I22x op a b) l h w = (h.0, (bits8 a h.1, (bits16 b h.2, tt)), omega arith)
insn_fits count (content.I21t op a k) l h w = let t = h.2 in (h.0, (bits8 a h.1, (target_fits count k l (omega arith), tt)), omega arith)
insn_fits count (content.I31t op a k) l h w = let t = h.2 in (h.0, (bits8 a h.1, (target_fits count k l (omega arith), tt)), omega arith)
insn_fits count (content.I21s op a b) l h w = (h.0, (bits8 a h.1, (signed16 b h.2, tt)), omega arith)
insn_fits count (content.I21h op a b) l h w = (h.0, (bits8 a h.1, (signed16 b h.2, tt)), omega arith)
insn_fits count (content.I21c op a which) l h w = ((h.0, kind_is op which h.2), (bits8 a h.1, (name_fits which w.0, tt)), omega arith)
insn_fits count (content.I31c op a which) l h w = ((h.0, kind_is op which h.2), (bits8 a h.1, (name_fits which w.0, tt)), omega arith)
insn_fits count (content.I23x op a b c) l h w = (h.0, (bits8 a h.1, (bits8 b h.2, (bits8 c h.3, tt))), omega arith)
insn_fits count (content.I22b op a b c) l h w = (h.0, (bits8 a h.1, (bits8 b h.2, (signed8 c h.3, tt))), omega arith)
insn_fits count (content.I22t op a b k) l h w = let t = h.3 in (h.0, (bits4 a h.1, (bits4 b h.2, (target_fits count k l (omega arith), tt))), omega arith)
insn_fits count (content.I22s op a b c) l h w = (h.0, (bits4 a h.1, (bits4 b h.2, (signed16 c h.3, tt))), omega arith)
insn_fits count (content.I22c op a b which) l h w = ((h.0, kind_is op which h.3), (bits4 a h.1, (bits4 b h.2, (name_fits which w.0, tt))), omega arith)
insn_fits count (content.I32x op a b) l h w = (h.0, (bits16 a h.1, (bits16 b h.2, tt)), omega arith)
insn_fits count (content.I31i op a b) l h w = (h.0, (bits8 a h.1, (signed32 b h.2, tt)), omega arith)
insn_fits count (content.I51l op a b) l h w = (h.0, (bits8 a h.1, (signed64 b h.2, tt)), omega arith)
insn_fits count (content.I35c op n regs which) l h w = registers_written count op n regs which h w.0
insn_fits count (content.I3rc op n first which) l h w = ((h.0, kind_is op which h.3), (bits16 first h.2, (bits8 n h.1, (name_fits which w.0, tt))), omega arith)
insn_fits count (content.Packed first targets) l h w = (tt, (signed32 first h.0, targets_fit count targets l h.2), most_fits count targets h.2)
insn_fits count (content.Sparse keys targets) l h w = (h.0, pairs_fit count keys targets l h.2 h.4, most_fits count targets h.4)
insn_fits count (content.Data width bytes) l h w = (tt, (width_fits width h.0, elements_fit bytes h.3), omega arith)
