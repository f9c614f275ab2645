-- The names of a program that keeps the rules have indices.
use Rattle.std.proofs.Common.{◌≡◌, ℕ, zero, suc, ◌<◌, ◌≤◌, List, [], ◌∷◌, length, refl, sym, subst, arith, Some, Option, None}
use Rattle.std.proofs.lemmas.Option.{slice_get_within}
use Rattle.std.specs.Prelude.{All, IfSome}
use Rattle.std.specs.List.{AllByRecursion, slice_get}
use Rattle.std.specs.Option.{ForSome}
use Rattle.dex_base.specs.Descriptor.{IsDescriptor}
use Rattle.dex_insn.specs.declared.opcode.IndexKind.TheVariants as kind
use Rattle.code_write.specs.Fits.{HasIndexBelow, ShortFits, short_name}
use Rattle.tables_names.specs.Closure.{Five, HasShorty, NameRanks}
use Rattle.tables_names.specs.inner.Indices.{HasRank}
use Rattle.tables_names.specs.Needed.{needed}
use Rattle.tables_names.proofs.IndexLemmas.{mentions_have_indices}
use Rattle.file_needed.proofs.ClassNames.{source_named, type_named}
use Rattle.program_types.specs.Content.{Class, Insn, Name, OfDesc, OfField, OfMethod, OfText, Program, Units}
use Rattle.program_types.specs.Key.{text_key}
use Rattle.program_types.specs.Kinds.{IsOfKind, HasIndex}
use Rattle.program_types.specs.Mentions.{if_any, mentions, names_of_class}
use Rattle.program_rules.specs.Rules.{RulesHold}
use Rattle.program_rules.specs.Valid.{IsValidName, IsValueType}
use Rattle.file_put.specs.inner.Named.{FewNames}
use Rattle.file_put.specs.inner.Held.{RowNamesHeld}
use Rattle.dex_base.proofs.ListFacts.{all_append, all_back, all_front}

-- what holds of all names in each class holds of all names in the program
pub mentions_hold : (P : Name → Type 0) (p : Program) → ((i : ℕ) (c : Class) → slice_get p i ≡ Some c → AllByRecursion P (names_of_class c)) → AllByRecursion P (mentions p)
mentions_hold P [] h = tt
mentions_hold P (c ∷ p) h = all_append P (names_of_class c) (mentions p) (h 0 c refl) (mentions_hold P p (λ i d e. h (suc i) d e))

-- .. and the other way
pub class_holds : (P : Name → Type 0) (p : Program) (i : ℕ) (c : Class) → slice_get p i ≡ Some c → AllByRecursion P (mentions p) → AllByRecursion P (names_of_class c)
class_holds P [] i c e h = absurd (cc e)
class_holds P (d ∷ p) zero c e h =
    let same : d ≡ c = cc e in
    subst (λ (x : Class). AllByRecursion P (names_of_class x)) same (all_front P (names_of_class d) (mentions p) h)
class_holds P (d ∷ p) (suc i) c e h = class_holds P p i c e (all_back P (names_of_class d) (mentions p) h)

-- types that are valid have shorties
all_of : (ts : List Units) → AllByRecursion IsValueType ts → All IsDescriptor ts
all_of [] h k d lt = absurd (omega (arith, lt))
all_of (t ∷ ts) h zero d lt = h.0.descriptor
all_of (t ∷ ts) h (suc k) d lt = all_of ts h.1 k d (omega (arith, lt))

shorties : (names : List Name) → AllByRecursion IsValidName names → AllByRecursion HasShorty names
shorties [] h = tt
shorties (OfText t ∷ names) h = (tt, shorties names h.1)
shorties (OfDesc t ∷ names) h = (tt, shorties names h.1)
shorties (OfField f ∷ names) h = (tt, shorties names h.1)
shorties (OfMethod m ∷ names) h = ((h.0.proto.ret, all_of m.proto.params h.0.proto.params), shorties names h.1)

pub have_shorties : (p : Program) → RulesHold p → AllByRecursion HasShorty (mentions p)
have_shorties p k = shorties (mentions p) (mentions_hold IsValidName p (λ i c e. (k i c e).names.all))

-- the names in a class have indices
pub class_ranked : (s : Five) (p : Program) (i : ℕ) (c : Class) → s ≡ needed p → slice_get p i ≡ Some c → AllByRecursion (HasIndex (NameRanks s)) (names_of_class c)
class_ranked s p i c e at =
    subst (λ (t : Five). AllByRecursion (HasIndex (NameRanks t)) (names_of_class c)) (sym e) (class_holds (HasIndex (NameRanks (needed p))) p i c at (mentions_have_indices p))

-- .. of 32 bits
pub below : (s : Five) → FewNames s → (n : Name) → HasIndex (NameRanks s) n → HasIndexBelow (NameRanks s) 4294967296 n
below s k (OfText t) h = let w = slice_get_within s.strings h.0 _ h.1 in (h.0, omega (arith, w, k.strings), h.1)
below s k (OfDesc t) h = let w = slice_get_within s.types h.0 _ h.1 in (h.0, omega (arith, w, k.types), h.1)
below s k (OfField f) h = let w = slice_get_within s.fields h.0 _ h.1 in (h.0, omega (arith, w, k.fields), h.1)
below s k (OfMethod m) h = let w = slice_get_within s.methods h.0 _ h.1 in (h.0, omega (arith, w, k.methods), h.1)

pub all_below : (s : Five) → FewNames s → (ns : List Name) → AllByRecursion (HasIndex (NameRanks s)) ns → AllByRecursion (HasIndexBelow (NameRanks s) 4294967296) ns
all_below s k [] h = tt
all_below s k (n ∷ ns) h = (below s k n h.0, all_below s k ns h.1)

-- .. those of types of 16
type_short : (s : Five) → length s.types ≤ 65535 → (o : Option Name) → IfSome o (λ n. IsOfKind kind.Type n → (i : ℕ) → NameRanks s i n → i < 65536)
type_short s few None = tt
type_short s few (Some (OfText t)) = λ k. absurd k
type_short s few (Some (OfDesc t)) = λ k i at. let w = slice_get_within s.types i _ at in omega (arith, w, few)
type_short s few (Some (OfField f)) = λ k. absurd k
type_short s few (Some (OfMethod m)) = λ k. absurd k

pub types_short : (s : Five) → length s.types ≤ 65535 → (i : Insn) → ShortFits (NameRanks s) kind.Type i
types_short s few i = type_short s few (short_name i)

-- the names in the row of a class are held
type_held : (s : Five) (o : Option Units) → AllByRecursion (HasIndex (NameRanks s)) (if_any (λ t. OfDesc t ∷ []) o) → ForSome o (λ t. HasRank s.types (text_key t))
type_held s None h = λ x e. absurd (cc e)
type_held s (Some t) h = λ x e. let same : t ≡ x = cc e in subst (λ (u : Units). HasRank s.types (text_key u)) same h.0

text_held : (s : Five) (o : Option Units) → AllByRecursion (HasIndex (NameRanks s)) (if_any (λ t. OfText t ∷ []) o) → ForSome o (λ t. HasRank s.strings (text_key t))
text_held s None h = λ x e. absurd (cc e)
text_held s (Some t) h = λ x e. let same : t ≡ x = cc e in subst (λ (u : Units). HasRank s.strings (text_key u)) same h.0

pub row_held : (s : Five) (p : Program) (i : ℕ) (c : Class) → s ≡ needed p → slice_get p i ≡ Some c → RowNamesHeld s c
row_held s p i c e at =
    let named = class_ranked s p i c e at in
    let t = type_named (HasIndex (NameRanks s)) c named in
    record {
      ty = t.0;
      above = type_held s c.superclass t.1;
      source = text_held s c.source (source_named (HasIndex (NameRanks s)) c named);
    }
