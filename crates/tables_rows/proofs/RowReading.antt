-- Tables that are read row by row.
use Rattle.std.proofs.Common.{◌≡◌, ℕ, ◌+◌, ◌-◌, take, drop, ◌<◌, ◌≤◌, List, [], ◌∷◌, ◌++◌, length, map, Option, Some, option_map, sym, subst, ap, ◌∙◌, arith, slice_get, get_or, inl, inr}
use Rattle.std.proofs.lemmas.List.{length-map, length_push}
use Rattle.std.proofs.lemmas.Option.{slice_get-get_or, slice_get-map, slice_get_within}
use Rattle.std.proofs.lemmas.Bool.{cases_lt}
use Rattle.dex_base.specs.Mutf8.{SpellsText}
use Rattle.dex_base.proofs.TextLaws.{text_unique}
use Rattle.dex_container.specs.Frame.{IsFramed}
use Rattle.dex_container.specs.Layout.{size_of}
use Rattle.tables_rows.specs.Names.{AreRows}
use Rattle.dex_container.specs.Where.{IsSectionOf, At}
use Rattle.tables_rows.specs.inner.Reading.{AreFirst, LastIsBelow}
use Rattle.tables_rows.specs.RowFields.{string_place}
use Rattle.tables_rows.specs.Sorted.{RowRises, IsBelow, StringIsBelow, RowsHold}
use Rattle.tables_rows.specs.Stands.{StringStands}
use Rattle.tables_rows.specs.TableFaults.{BreaksAt}
use Rattle.tables_rows.specs.inner.TableFaults.{IsFirstRow}
use Rattle.dex_base.specs.declared.fault.Fault.{Fault}
use Rattle.dex_container.proofs.Standing.{At-one, stands_at, stands_not, mod_one}
use Rattle.dex_container.specs.declared.section.Section.{Section}
use Rattle.dex_base.specs.Grammar.{Begins, NoneBegins}
use Rattle.program_types.specs.View.{str}
use Rattle.program_types.specs.declared.names.Str.{Str}
use Rattle.dex_base.proofs.ListFacts.{slice_split}

module _ {V : Type 0} (S : List ℕ → ℕ → V → Type 0) (H : List ℕ → ℕ → Type 0) (b : List ℕ) where
  pub first_more : (n : ℕ) (names : List V) (v : V) → AreFirst S H b n names → S b n v → H b n → AreFirst S H b (n + 1) (names ++ v ∷ [])
  first_more n names v f stands holds = record {
    count = length_push names v ∙ ap (λ k. k + 1) f.count;
    each = λ i w e. elim (slice_split names v w i e) [
      | inl at ↦ f.each i w at
      | inr p ↦ let same : n ≡ i = sym (p.0 ∙ f.count) in subst (λ (x : V). S b i x) p.1 (subst (λ (k : ℕ). S b k v) same stands)
    ];
    hold = λ i h. elim (cases_lt i n) [
      | inl lt ↦ f.hold i lt
      | inr ge ↦ let e : n ≡ i = omega arith in subst (λ (k : ℕ). H b k) e holds
    ];
  }

  pub first_rows : (n k : ℕ) (names : List V) → n ≡ size_of b k → AreFirst S H b n names → AreRows S b k names
  first_rows n k names e f = record { count = f.count ∙ e; each = f.each }

-- the name at an index of a table in memory, whose rows are these
pub row_some : {A V : Type 0} (S : List ℕ → ℕ → V → Type 0) (b : List ℕ) (k : ℕ) (f : A → V) (xs : List A) (i : ℕ) (x : A) → AreRows S b k (map f xs) → slice_get xs i ≡ Some x → S b i (f x)
row_some S b k f xs i x rows e = rows.each i (f x) (slice_get-map f xs i ∙ ap (option_map f) e)

-- a row of strings is one text
pub string_one : (b : List ℕ) (i : ℕ) (s t : List ℕ) → IsFramed b → StringStands b i s → StringStands b i t → s ≡ t
string_one b i s t framed x y = At-one SpellsText text_unique b framed 0x2002 1 (string_place b i) s t x.text y.text

-- texts in order make rows in order
pub string_rises : (b : List ℕ) (n : ℕ) (texts : List (List ℕ)) (next : List ℕ) → IsFramed b → ((i : ℕ) (v : List ℕ) → slice_get texts i ≡ Some v → StringStands b i v) → length texts ≡ n → StringStands b n next → LastIsBelow texts next → RowRises (StringIsBelow) b n
string_rises b n texts next framed each count stands below j is s t at_j at_n =
    let lt : j < length texts = omega arith in
    let last = get_or texts j [] in
    let got : slice_get texts j ≡ Some last = slice_get-get_or texts j [] lt in
    let a : last ≡ s = string_one b j last s framed (each j last got) at_j in
    let c : next ≡ t = string_one b n next t framed stands at_n in
    subst (λ (x : List ℕ). IsBelow s x) c (subst (λ (x : List ℕ). IsBelow x next) a (below j last (is ∙ sym count) got))

-- and texts that are not, rows that are not
pub string_falls : (b : List ℕ) (n : ℕ) (texts : List (List ℕ)) (next : List ℕ) → ((i : ℕ) (v : List ℕ) → slice_get texts i ≡ Some v → StringStands b i v) → length texts ≡ n → StringStands b n next → ¬ LastIsBelow texts next → ¬ RowRises StringIsBelow b n
string_falls b n texts next each count stands not rises =
    not (λ j last is got. rises j (is ∙ count) last next (each j last got) stands)

-- the last of some texts, as the slice of strings has it
pub below_last : (xs : List Str) (last : Str) (next : List ℕ) → Some last ≡ slice_get xs (length xs - 1) → IsBelow (str last) next → LastIsBelow (map str xs) next
below_last xs last next e below j other is got =
    let n = length-map xs str in
    let at : j ≡ length xs - 1 = omega (arith, is, n) in
    let here : slice_get (map str xs) j ≡ Some (str last) = slice_get-map str xs j ∙ ap (λ k. option_map str (slice_get xs k)) at ∙ ap (option_map str) (sym e) in
    let same : str last ≡ other = some_same (sym here ∙ got) in
    subst (λ (x : List ℕ). IsBelow x next) same below
  where
    some_same : {A : Type 0} {x y : A} → ◌≡◌ {A = Option A} (Some x) (Some y) → x ≡ y
    some_same e = cc

pub last_below : (xs : List Str) (last : Str) (next : List ℕ) → Some last ≡ slice_get xs (length xs - 1) → LastIsBelow (map str xs) next → IsBelow (str last) next
last_below xs last next e all =
    let n = length-map xs str in
    let within = slice_get_within xs (length xs - 1) last (sym e) in
    all (length xs - 1) (str last) (omega (arith, n, within)) (slice_get-map str xs (length xs - 1) ∙ ap (option_map str) (sym e))

-- a text read at the place that the row names
pub string_read : (b rest : List ℕ) (s : Section) (i place n : ℕ) (text : List ℕ) → IsSectionOf b 0x2002 s → rest ≡ take (s.end - place) (drop place b) → place ≡ string_place b i → i < size_of b 0 → s.begin ≤ place → place < s.end
    → Begins SpellsText rest text n → StringStands b i text
string_read b rest s i place n text is same at row low high f =
    record { row = row; text = subst (λ (q : ℕ). At SpellsText b 0x2002 1 q text) at (stands_at SpellsText b rest 0x2002 1 s place is same text n low high (mod_one place) f) }

pub string_none : (b rest : List ℕ) (s : Section) (i place : ℕ) → IsSectionOf b 0x2002 s → rest ≡ take (s.end - place) (drop place b) → place ≡ string_place b i
    → NoneBegins SpellsText rest → (text : List ℕ) → StringStands b i text → ⊥
string_none b rest s i place is same at none text st =
    stands_not SpellsText b rest 0x2002 1 s place is same text none (subst (λ (q : ℕ). At SpellsText b 0x2002 1 q text) (sym at) st.text)

-- the fault of a row, where the rows before hold
pub first_row : (Breaks : List ℕ → ℕ → ℕ → Type 0) (Holds : List ℕ → ℕ → Type 0) (b : List ℕ) (k i : ℕ) (e : Fault) → i < size_of b k → RowsHold Holds b i → BreaksAt Breaks b k i e → IsFirstRow Breaks Holds b k e
first_row Breaks Holds b k i e within before broken = record { number = i; within = within; breaks = broken; before = before }

-- the row before row i is row i - 1
pub rises_from : (Below : List ℕ → ℕ → ℕ → Type 0) (b : List ℕ) (i : ℕ) → 0 < i → Below b (i - 1) i → RowRises Below b i
rises_from Below b i some below j is = let e : i - 1 ≡ j = omega (arith, is, some) in subst (λ (k : ℕ). Below b k i) e below

pub rises_to : (Below : List ℕ → ℕ → ℕ → Type 0) (b : List ℕ) (i : ℕ) → 0 < i → RowRises Below b i → Below b (i - 1) i
rises_to Below b i some rises = rises (i - 1) (omega (arith, some))
