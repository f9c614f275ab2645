-- What was found, and what comes to it.
use Rattle.std.proofs.Common.{◌≡◌, ℕ, List, [], ◌∷◌, ◌++◌, refl, sym, ap, ◌∙◌, subst, Bool, true, false, Option, None, Some}
use Rattle.std.specs.Prelude.{MatchBool, ◌==◌}
use Rattle.std.proofs.lemmas.Bool.{eqb-true}
use Rattle.std.specs.List.{AllByRecursion, flat_map}
use Rattle.std.specs.HashMap.{HashMap}
use Rattle.dex_container.specs.Frame.{IsFramed}
use Rattle.dex_container.proofs.Standing.{At-one}
use Rattle.dex_value.specs.Spelling.{SpellsArray}
use Rattle.dex_value.specs.Standing.{ArrayStands}
use Rattle.dex_value.specs.Wide.{wide_values}
use Rattle.dex_value.proofs.FrontLaws.{SpellsArray-unique}
use Rattle.dex_value.proofs.Carrying.{NameStands-functional}
use Rattle.code_read.specs.Code.{CodeStands}
use Rattle.code_read.proofs.CodeLaws.{code_one}
use Rattle.code_write.specs.Fits.{wide_code}
use Rattle.file_classes.specs.ClassRows.{IndexOrNone, no_index}
use Rattle.file_classes.specs.Classes.{CodeAt, SomeCodeStands, StaticsAt}
use Rattle.file_classes.proofs.OnceLaws.{one_of_kind}
use Rattle.tables_rows.specs.Stands.{NameStands}
use Rattle.program_types.specs.Content.{Name, Code, Units, Value, values}
use Rattle.program_types.specs.Mentions.{names_of_code, names_of_value}
use Rattle.tables_names.specs.Closure.{Five, AreRising, IsClosed, closure_of, with_name, with_names}
use Rattle.tables_names.specs.inner.Closure.{Holds}
use Rattle.tables_names.proofs.FiveLemmas.{part_adds_nothing}
use Rattle.tables_names.proofs.NeededLemmas.{holds_part, names_append, with_names-grows, with_names-holds, closure_part}
use Rattle.tables_rows.specs.inner.Cached.{AreCached}
use Rattle.file_renumber.specs.inner.Marked.{AddsNames, HasMarks, Marked}
use Rattle.file_strip.specs.inner.Survey.{AreFound, ArrayIsFound, CodeIsFound, FindsNames, HasFound}
use Rattle.file_strip.specs.declared.survey.Surveyed.{Surveyed}

-- ---- names that are held

name_adds_nothing : (s : Five) (n : Name) → IsClosed s → AreRising s → Holds s n → s ≡ with_name s n
unfolding with_name
name_adds_nothing s n closed up h = part_adds_nothing s (closure_of n) up (closure_part s n closed h)

-- names that are held add nothing
pub held_add_nothing : (s : Five) (ns : List Name) → IsClosed s → AreRising s → AllByRecursion (Holds s) ns → s ≡ with_names s ns
held_add_nothing s [] closed up all = refl
held_add_nothing s (n ∷ ns) closed up all =
    held_add_nothing s ns closed up all.1 ∙ ap (λ (x : Five). with_names x ns) (name_adds_nothing s n closed up all.0)

-- and stay held
pub still_held : (s : Five) (more ns : List Name) → AllByRecursion (Holds s) ns → AllByRecursion (Holds (with_names s more)) ns
still_held s more [] all = tt
still_held s more (n ∷ ns) all = (holds_part s (with_names s more) n (with_names-grows s more) all.0, still_held s more ns all.1)

-- ---- what was found stays so

pub codes_stay : {S : Type 0} (b : List ℕ) (s : Five) (more : List Name) (m : HashMap ℕ ℕ S) → AreCached (CodeIsFound b s) m → AreCached (CodeIsFound b (with_names s more)) m
codes_stay b s more m kept off n at = let c = kept off n at in record { wide = c.wide; names = λ code st. still_held s more (names_of_code code) (c.names code st) }

pub arrays_stay : {S : Type 0} (b : List ℕ) (s : Five) (more : List Name) (m : HashMap ℕ ℕ S) → AreCached (ArrayIsFound b s) m → AreCached (ArrayIsFound b (with_names s more)) m
arrays_stay b s more m kept off n at = let c = kept off n at in record { wide = c.wide; names = λ most vs st. still_held s more (flat_map names_of_value vs) (c.names most vs st) }

pub finds_marked : (b : List ℕ) (old : Surveyed) (marks : Marked) (ns : List Name) → AddsNames b old.marks marks ns → FindsNames b old (record old { marks = marks }) ns
finds_marked b old marks ns f s a = record { marks = f s a.marks; codes = codes_stay b s ns old.codes a.codes; arrays = arrays_stay b s ns old.arrays a.arrays; section = a.section }

pub finds_more : (b : List ℕ) (old mid new : Surveyed) (xs ys : List Name) → FindsNames b old mid xs → FindsNames b mid new ys → FindsNames b old new (xs ++ ys)
finds_more b old mid new xs ys f g s a = subst (AreFound b new) (sym (names_append s xs ys)) (g (with_names s xs) (f s a))

pub has_found_after : (b : List ℕ) (old new : Surveyed) (ns : List Name) → HasFound b old → FindsNames b old new ns → HasFound b new
has_found_after b old new ns h f = (with_names h.0 ns, f h.0 h.1)

pub has_marks : (b : List ℕ) (f : Surveyed) → HasFound b f → HasMarks b f.marks
has_marks b f h = (h.0, h.1.marks)

-- names that were found before
pub finds_held : (b : List ℕ) (f : Surveyed) (ns : List Name) → ((s : Five) → AreFound b f s → AllByRecursion (Holds s) ns) → FindsNames b f f ns
finds_held b f ns held s a = subst (AreFound b f) (held_add_nothing s ns a.marks.closed a.marks.rise (held s a)) a

-- ---- what stands at an offset that isn't 0

pub code_there : (b : List ℕ) (off : ℕ) (c : Option Code) → (off ≡ 0 → ⊥) → CodeAt b off c → SomeCodeStands b off c
code_there b off c not at = by (off == 0) refl at
  where
    by : (t : Bool) → (off == 0) ≡ t → MatchBool t (c ≡ None) (SomeCodeStands b off c) → SomeCodeStands b off c
    by true e x = absurd (not (eqb-true off 0 e))
    by false e x = x

pub array_there : (b : List ℕ) (off most : ℕ) (vs : List Value) → (off ≡ 0 → ⊥) → StaticsAt b off most vs → ArrayStands (NameStands b) b off most vs
array_there b off most vs not at = by (off == 0) refl at
  where
    by : (t : Bool) → (off == 0) ≡ t → MatchBool t (vs ≡ []) (ArrayStands (NameStands b) b off most vs) → ArrayStands (NameStands b) b off most vs
    by true e x = absurd (not (eqb-true off 0 e))
    by false e x = x

-- a code that is marked was found
pub code_is_found : (b : List ℕ) (s : Five) (off n : ℕ) (c : Code) → IsFramed b → CodeStands (NameStands b) b off c → ((d : Code) → CodeStands (NameStands b) b off d → n ≡ wide_code d) → CodeIsFound b (with_names s (names_of_code c)) off n
code_is_found b s off n c framed st wide = record {
  wide = wide;
  names = λ d sd. subst (λ (x : Code). AllByRecursion (Holds (with_names s (names_of_code c))) (names_of_code x)) (code_one (NameStands b) (one_of_kind b framed) b framed off c d st sd) (with_names-holds s (names_of_code c));
}

-- an array that is marked was found
pub array_is_found : (b : List ℕ) (s : Five) (off n most : ℕ) (vs : List Value) → IsFramed b → ArrayStands (NameStands b) b off most vs → ((m : ℕ) (ws : List Value) → ArrayStands (NameStands b) b off m ws → n ≡ wide_values (values ws)) → ArrayIsFound b (with_names s (flat_map names_of_value vs)) off n
array_is_found b s off n most vs framed st wide = record {
  wide = wide;
  names = λ m ws sw. subst (λ (x : List Value). AllByRecursion (Holds (with_names s (flat_map names_of_value vs))) (flat_map names_of_value x)) (At-one (SpellsArray (NameStands b)) (SpellsArray-unique (NameStands b) (NameStands-functional b framed)) b framed 0x2005 1 off vs ws st.stands sw.stands) (with_names-holds s (flat_map names_of_value vs));
}

-- an index that isn't the one of none has a row
pub some_row : (S : ℕ → Units → Type 0) (index : ℕ) (t : Option Units) → (index ≡ no_index → ⊥) → IndexOrNone S index t → (u : Units) × (t ≡ Some u) × S index u
some_row S index None not is = absurd (not is)
some_row S index (Some u) not is = (u, refl, is.1)
