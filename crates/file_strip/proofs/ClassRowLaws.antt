-- The rows of class_defs by the numbers of kept rows.
use Rattle.std.proofs.Common.{◌≡◌, ◌≢◌, ℕ, ◌+◌, ◌^◌, ◌<◌, List, [], ◌∷◌, ◌++◌, length, take, get_or, refl, sym, ap, subst, ◌∙◌, arith, slice_get, Some, None, Option}
use Rattle.std.specs.Option.{ForSome}
use Rattle.std.specs.List.{AllByRecursion}
use Rattle.std.proofs.lemmas.Option.{slice_get_within}
use Rattle.dex_base.specs.Grammar.{Appends, Each}
use Rattle.dex_base.specs.Words.{words_bytes}
use Rattle.dex_base.proofs.GrammarLaws.{Each-appends_none}
use Rattle.file_classes.specs.ClassRows.{IndexOrNone, no_index, class_word}
use Rattle.file_needed.proofs.ClassNames.{type_named, source_named}
use Rattle.file_put.specs.inner.ClassDefs.{SpellsClassRow, StringRanks, TypeRanks, with_places}
use Rattle.file_put.proofs.ClassRowLaws.{seated_more}
use Rattle.file_put.proofs.PlacedClasses.{rank_or_none}
use Rattle.program_types.specs.Content.{Class, Program, Units, Name, OfDesc, OfText}
use Rattle.program_types.specs.Key.{text_key}
use Rattle.program_types.specs.Mentions.{names_of_class, if_any}
use Rattle.tables_names.specs.Closure.{Five, NameRanks}
use Rattle.tables_names.specs.inner.Closure.{Holds}
use Rattle.tables_names.specs.Needed.{needed}
use Rattle.tables_names.specs.Rank.{IsAt}
use Rattle.file_renumber.specs.inner.Marked.{Columns}
use Rattle.file_renumber.specs.inner.Numbers.{Carries}
use Rattle.tables_rows.specs.Stands.{NameStands, StringStands, TypeStands}
use Rattle.file_strip.specs.inner.Keeping.{Keeps}
use Rattle.file_strip.specs.inner.Names.{StringOrNone, TypeOrNone}
use Rattle.file_strip.specs.inner.ClassRow.{IsRowWithPlaces}
use Rattle.file_strip.proofs.KeepLaws.{few_types, few_strings, carried, class_holds}
use Rattle.dex_base.proofs.ListFacts.{some_inj}
use Rattle.file_classes.proofs.EntryLaws.{entry_at}

-- ---- a name that may be none

none_is : (S : ℕ → Units → Type 0) (name : Option Units) → IndexOrNone S no_index name → name ≡ None
none_is S None h = refl
none_is S (Some t) h = absurd (h.0 refl)

pub no_type : (b : List ℕ) (numbers : Columns) (s : Five) (index : ℕ) (name : Option Units) → index ≡ no_index → TypeOrNone b numbers s index name → IndexOrNone (TypeRanks s) no_index name
no_type b numbers s index name e x = rw (none_is (TypeStands b) name (subst (λ (i : ℕ). IndexOrNone (TypeStands b) i name) e x.stands)) refl

pub no_string : (b : List ℕ) (numbers : Columns) (s : Five) (index : ℕ) (name : Option Units) → index ≡ no_index → StringOrNone b numbers s index name → IndexOrNone (StringRanks s) no_index name
no_string b numbers s index name e x = rw (none_is (StringStands b) name (subst (λ (i : ℕ). IndexOrNone (StringStands b) i name) e x.stands)) refl

pub type_within : (b : List ℕ) (numbers : Columns) (s : Five) (index : ℕ) (name : Option Units) → index ≢ no_index → TypeOrNone b numbers s index name → index < length numbers.types
type_within b numbers s index None e x = absurd (e x.stands)
type_within b numbers s index (Some t) e x = let r = x.carried t refl index x.stands.1 in slice_get_within numbers.types index r.0 r.1

pub string_within : (b : List ℕ) (numbers : Columns) (s : Five) (index : ℕ) (name : Option Units) → index ≢ no_index → StringOrNone b numbers s index name → index < length numbers.strings
string_within b numbers s index None e x = absurd (e x.stands)
string_within b numbers s index (Some t) e x = let r = x.carried t refl index x.stands.1 in slice_get_within numbers.strings index r.0 r.1

pub some_type : (b : List ℕ) (numbers : Columns) (s : Five) (index number : ℕ) (name : Option Units) → index ≢ no_index → TypeOrNone b numbers s index name → slice_get numbers.types index ≡ Some number → IndexOrNone (TypeRanks s) number name
some_type b numbers s index number None e x at = absurd (e x.stands)
some_type b numbers s index number (Some t) e x at =
    let r = x.carried t refl index x.stands.1 in
    rank_or_none s.types number t x.few (subst (λ (n : ℕ). IsAt s.types n (text_key t)) (some_inj r.0 number (sym r.1 ∙ at)) r.2)

pub some_string : (b : List ℕ) (numbers : Columns) (s : Five) (index number : ℕ) (name : Option Units) → index ≢ no_index → StringOrNone b numbers s index name → slice_get numbers.strings index ≡ Some number → IndexOrNone (StringRanks s) number name
some_string b numbers s index number None e x at = absurd (e x.stands)
some_string b numbers s index number (Some t) e x at =
    let r = x.carried t refl index x.stands.1 in
    rank_or_none s.strings number t x.few (subst (λ (n : ℕ). IsAt s.strings n (text_key t)) (some_inj r.0 number (sym r.1 ∙ at)) r.2)

-- ---- the names of a class's row

some_held : (make : Units → Name) (P Q : Name → Type 0) → ((n : Name) → P n → Q n) → (name : Option Units) → AllByRecursion P (if_any (λ t. make t ∷ []) name) → ForSome name (λ t. Q (make t))
some_held make P Q f None h = λ t e. absurd cc
some_held make P Q f (Some u) h = λ t e. let same_text : u ≡ t = some_text u t e in subst (λ (x : Units). Q (make x)) same_text (f (make u) h.0)
  where
    some_text : (a b : Units) → Some a ≡ Some b → a ≡ b
    some_text a b e = cc

module _ (b : List ℕ) (numbers : Columns) (p : Program) (k : Keeps b numbers p) (i : ℕ) (c : Class) (at : slice_get p i ≡ Some c) where
  names : AllByRecursion (Holds (needed p)) (names_of_class c)
  names = class_holds p i c at

  pub class_number : (number : ℕ) → slice_get numbers.types (class_word b i 0) ≡ Some number → IsAt (needed p).types number (text_key c.ty)
  class_number number there =
      let r = carried b numbers p k (OfDesc c.ty) (type_named (Holds (needed p)) c names).0 (class_word b i 0) (k.classes.each i c at).head.row.named in
      subst (λ (n : ℕ). IsAt (needed p).types n (text_key c.ty)) (some_inj r.0 number (sym r.1 ∙ there)) r.2

  pub class_within : class_word b i 0 < length numbers.types
  class_within =
      let r = carried b numbers p k (OfDesc c.ty) (type_named (Holds (needed p)) c names).0 (class_word b i 0) (k.classes.each i c at).head.row.named in
      slice_get_within numbers.types (class_word b i 0) r.0 r.1

  pub superclass : TypeOrNone b numbers (needed p) (class_word b i 2) c.superclass
  superclass = record {
    few = let f = few_types b numbers p k in omega (arith, f);
    stands = (k.classes.each i c at).head.row.above;
    carried = some_held OfDesc (Holds (needed p)) (Carries (NameStands b) (NameRanks (needed p)) numbers) (carried b numbers p k) c.superclass (type_named (Holds (needed p)) c names).1;
  }

  pub source : StringOrNone b numbers (needed p) (class_word b i 4) c.source
  source = record {
    few = let f = few_strings b numbers p k in omega (arith, f);
    stands = (k.classes.each i c at).head.row.written_in;
    carried = some_held OfText (Holds (needed p)) (Carries (NameStands b) (NameRanks (needed p)) numbers) (carried b numbers p k) c.source (source_named (Holds (needed p)) c names);
  }

  pub class_row : (class above source list datum array : ℕ) (old new : List ℕ) → slice_get numbers.types (class_word b i 0) ≡ Some class → IndexOrNone (TypeRanks (needed p)) above c.superclass → IndexOrNone (StringRanks (needed p)) source c.source
      → class < 2 ^ 32 → class_word b i 1 < 2 ^ 32 → above < 2 ^ 32 → list < 2 ^ 32 → source < 2 ^ 32 → datum < 2 ^ 32 → array < 2 ^ 32
      → new ≡ old ++ words_bytes (class ∷ class_word b i 1 ∷ above ∷ list ∷ source ∷ 0 ∷ datum ∷ array ∷ [])
      → Appends (SpellsClassRow (needed p)) old new (record { class = c; list = list; class_data = datum; array = array })
  class_row class above source list datum array old new there a s f0 f1 f2 f3 f4 f5 f6 w =
      let flags = (k.classes.each i c at).head.row.flagged in
      record {
        bytes = words_bytes (class ∷ class_word b i 1 ∷ above ∷ list ∷ source ∷ 0 ∷ datum ∷ array ∷ []);
        joined = w;
        spelled = record {
          class = class;
          above = above;
          source = source;
          whole = ap (λ (n : ℕ). words_bytes (class ∷ n ∷ above ∷ list ∷ source ∷ 0 ∷ datum ∷ array ∷ [])) (sym flags);
          small_class = f0;
          small_flags = subst (λ (n : ℕ). n < 2 ^ 32) (sym flags) f1;
          small_above = f2;
          small_list = f3;
          small_source = f4;
          small_class_data = f5;
          small_array = f6;
          class_is = class_number class there;
          above_is = a;
          source_is = s;
        };
      }

-- ---- the rows of all classes

pub seated_next : (p : Program) (old mid new : List ℕ) (lists datas arrays : List ℕ) (i : ℕ) → i < length p → Appends (Each (SpellsClassRow (needed p))) old mid (take i (with_places p lists datas arrays))
    → IsRowWithPlaces p i (get_or lists i 0) (get_or datas i 0) (get_or arrays i 0) mid new → Appends (Each (SpellsClassRow (needed p))) old new (take (i + 1) (with_places p lists datas arrays))
seated_next p old mid new lists datas arrays i lt rows row = let c = entry_at p i lt in seated_more (needed p) old mid new p lists datas arrays i c.0 c.1 rows (row c.0 c.1)

pub seated_start : (p : Program) (old : List ℕ) → Appends (Each (SpellsClassRow (needed p))) old old []
seated_start p old = Each-appends_none (SpellsClassRow (needed p)) old
