-- What a code that is well formed and fits gives to each part of writing.
use Rattle.std.proofs.Common.{◌≡◌, ℕ, ◌+◌, ◌<◌, ◌≤◌, List, [], ◌∷◌, map, length, get_or, sym, ◌∙◌, arith, zero, suc, subst}
use Rattle.std.specs.List.{AllByRecursion, flat_map}
use Rattle.dex_insn.specs.declared.opcode.IndexKind.{IndexKind}
use Rattle.dex_insn.specs.declared.opcode.IndexKind.TheVariants as kind
use Rattle.program_types.specs.Content.{Name, OfText, OfDesc, OfField, OfMethod, Insn, Code}
use Rattle.program_types.specs.Content as made
use Rattle.program_types.specs.View.{insn}
use Rattle.program_types.specs.declared.insn.Insn.{Insn as Held}
use Rattle.std.proofs.lemmas.List.{length-map}
use Rattle.program_types.specs.Mentions.{names_of_insn, names_of_try}
use Rattle.program_types.specs.Kinds.{IsOfKind}
use Rattle.program_types.specs.Sizes.{starts_from, total, insn_units, addresses_of, length_of}
use Rattle.program_types.specs.Formed.{insn_at}
use Rattle.code_read.specs.Places.{Rises}
use Rattle.code_write.specs.Fits.{ShortFits, HasIndexBelow, FitsCode, CanBePut}
use Rattle.code_write.specs.inner.Fits.{NameFits}
use Rattle.code_write.proofs.SizeLaws.{units-some}
use Rattle.dex_base.proofs.ListFacts.{all_back, all_front}
use Rattle.code_read.proofs.Runs.{length-starts}

-- ---- addresses

pub length-addresses : (is : List Insn) → length (addresses_of is) ≡ length is
length-addresses is = length-starts 0 (map insn_units is) ∙ length-map is insn_units

starts-low : (a : ℕ) (is : List Insn) (k : ℕ) → k < length is → a ≤ get_or (starts_from a (map insn_units is)) k 0
starts-low a [] k l = absurd (omega arith)
starts-low a (i ∷ is) zero l = omega arith
starts-low a (i ∷ is) (suc k) l = let t = starts-low (a + insn_units i) is k (omega arith) in omega arith

starts-rise : (a : ℕ) (is : List Insn) (i j : ℕ) → i < j → j < length is → get_or (starts_from a (map insn_units is)) i 0 < get_or (starts_from a (map insn_units is)) j 0
starts-rise a [] i j p l = absurd (omega arith)
starts-rise a (x ∷ xs) i zero p l = absurd (omega arith)
starts-rise a (x ∷ xs) zero (suc j) p l = let t = starts-low (a + insn_units x) xs j (omega arith) in let u = units-some x in omega arith
starts-rise a (x ∷ xs) (suc i) (suc j) p l = starts-rise (a + insn_units x) xs i j (omega arith) (omega arith)

pub addresses-rise : (is : List Insn) → Rises (addresses_of is)
addresses-rise is = record { each = λ i j p l. starts-rise 0 is i j p (let n = length-addresses is in omega arith) }

starts-end : (a : ℕ) (is : List Insn) (k : ℕ) → k < length is → get_or (starts_from a (map insn_units is)) k 0 + insn_units (insn_at is k) ≤ a + total (map insn_units is)
unfolding total
starts-end a [] k l = absurd (omega arith)
starts-end a (i ∷ is) zero l = omega arith
starts-end a (i ∷ is) (suc k) l = let t = starts-end (a + insn_units i) is k (omega arith) in omega arith

-- an instruction ends within the whole
pub address-end : (is : List Insn) (k : ℕ) → k < length is → get_or (addresses_of is) k 0 + insn_units (insn_at is k) ≤ length_of is
address-end is k l = let t = starts-end 0 is k l in omega arith

pub address-low : (is : List Insn) (k : ℕ) → k < length (addresses_of is) → get_or (addresses_of is) k 0 < length_of is
address-low is k l = let n = length-addresses is in let t = address-end is k (omega arith) in let u = units-some (insn_at is k) in omega arith

-- ---- names

pub names-at : (P : Name → Type 0) (is : List Insn) (k : ℕ) → AllByRecursion P (flat_map names_of_insn is) → k < length is → AllByRecursion P (names_of_insn (insn_at is k))
names-at P [] k h l = absurd (omega arith)
names-at P (i ∷ is) zero h l = all_front P (names_of_insn i) (flat_map names_of_insn is) h
names-at P (i ∷ is) (suc k) h l = names-at P is k (all_back P (names_of_insn i) (flat_map names_of_insn is) h) (omega arith)

-- the index of a name is short, if it is of this kind
abbrev IsShort : (ℕ → Name → Type 0) → Name → IndexKind → Type 0
IsShort N which k = IsOfKind k which → (i : ℕ) → N i which → i < 65536

-- a name of any kind fits where all of its kind do
short-fits : (N : ℕ → Name → Type 0) (which : Name) → HasIndexBelow N 4294967296 which → IsShort N which kind.String → IsShort N which kind.Type → IsShort N which kind.Field → IsShort N which kind.Method → HasIndexBelow N 65536 which
short-fits N (OfText t) h a b c d = (h.0, a tt h.0 h.2, h.2)
short-fits N (OfDesc t) h a b c d = (h.0, b tt h.0 h.2, h.2)
short-fits N (OfField t) h a b c d = (h.0, c tt h.0 h.2, h.2)
short-fits N (OfMethod t) h a b c d = (h.0, d tt h.0 h.2, h.2)

name-fits : (N : ℕ → Name → Type 0) (i : Insn) → AllByRecursion (HasIndexBelow N 4294967296) (names_of_insn i) → ShortFits N kind.String i → ShortFits N kind.Type i → ShortFits N kind.Field i → ShortFits N kind.Method i → NameFits N i
name-fits N (made.I21c op a which) h s t f m = short-fits N which h.0 s t f m
name-fits N (made.I22c op a b which) h s t f m = short-fits N which h.0 s t f m
name-fits N (made.I31c op a which) h s t f m = h.0
name-fits N (made.I35c op n regs which) h s t f m = short-fits N which h.0 s t f m
name-fits N (made.I3rc op n first which) h s t f m = short-fits N which h.0 s t f m
name-fits N _ h s t f m = tt

pub names-fit : (N : ℕ → Name → Type 0) (c : Code) (k : ℕ) → FitsCode N c → CanBePut N c → k < length c.insns → NameFits N (insn_at c.insns k)
names-fit N c k f p l = name-fits N (insn_at c.insns k)
    (names-at (HasIndexBelow N 4294967296) c.insns k (all_front (HasIndexBelow N 4294967296) (flat_map names_of_insn c.insns) (flat_map names_of_try c.tries) p.ranked) l)
    (f.strings k l) (p.types k l) (f.fields k l) (f.methods k l)

pub caught-ranked : (N : ℕ → Name → Type 0) (c : Code) → CanBePut N c → AllByRecursion (HasIndexBelow N 4294967296) (flat_map names_of_try c.tries)
caught-ranked N c p = all_back (HasIndexBelow N 4294967296) (flat_map names_of_insn c.insns) (flat_map names_of_try c.tries) p.ranked

-- ---- in memory

-- the addresses of the instructions, as each part of writing asks for them
pub record Good (xs : List Held) (ss : List ℕ) : Type 0 where
  pub rises : Rises ss
  pub count : length ss ≡ length xs
  pub low : (k : ℕ) → k < length ss → get_or ss k 0 ≤ 4294967295

pub good : (xs : List Held) (ss : List ℕ) → ss ≡ addresses_of (map insn xs) → length_of (map insn xs) ≤ 4294967295 → Good xs ss
good xs ss e w = subst (λ (l : List ℕ). Good xs l) (sym e) (record {
  rises = addresses-rise (map insn xs);
  count = length-addresses (map insn xs) ∙ length-map xs insn;
  low = λ k l. let t = address-low (map insn xs) k l in omega arith;
})
