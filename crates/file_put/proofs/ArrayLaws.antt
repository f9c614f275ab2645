-- Static values of a program's classes.
use Rattle.std.proofs.Common.{◌≡◌, ℕ, ◌<◌, List, length, map, get_or, arith}
use Rattle.std.proofs.lemmas.List.{length-map}
use Rattle.std.proofs.lemmas.Option.{slice_get_within}
use Rattle.std.specs.List.{AllByRecursion}
use Rattle.dex_base.specs.Leb128.{Shortest}
use Rattle.program_types.specs.Content.{Name, OfText, OfDesc, OfField, OfMethod, Program, Value, Values, Named, Enum, Array, no_values, more_values, values}
use Rattle.program_types.specs.View as view
use Rattle.program_types.specs.declared.value.Value as made
use Rattle.program_types.specs.declared.class.Class as class
use Rattle.tables_names.specs.Closure.{Five, NameRanks}
use Rattle.tables_names.specs.Needed.{needed}
use Rattle.program_types.specs.Mentions.{names_of_value, names_of_values, NamesHold, AllNamesHold}
use Rattle.dex_value.specs.Named.{IsRanked}
use Rattle.dex_value.specs.Spelling.{SpellsArray}
use Rattle.file_layout.specs.inner.Sections.{is_empty_list}
use Rattle.program_types.specs.Kinds.{HasIndex}
use Rattle.file_layout.specs.inner.OneMore.{Entry, PutsOnce}
use Rattle.file_layout.specs.inner.Sharing.{UsesItem}
use Rattle.file_needed.proofs.ClassNames.{values_kept}
use Rattle.file_put.specs.inner.Named.{FewNames}
use Rattle.file_put.proofs.NumberLaws.{class_named}
use Rattle.file_layout.proofs.SectionLaws.{not_none}
use Rattle.dex_base.specs.Fields.{AreBytes}
use Rattle.file_put.specs.inner.Arrays.{WritesArray}
use Rattle.dex_base.proofs.ListFacts.{all_front, all_back}

ranked : (s : Five) → FewNames s → (n : Name) → HasIndex (NameRanks s) n → IsRanked s n
ranked s k (OfText t) h = let w = slice_get_within s.strings h.0 _ h.1 in record { rank = h.0; small = omega (arith, w, k.strings); stands = h.1 }
ranked s k (OfDesc t) h = let w = slice_get_within s.types h.0 _ h.1 in record { rank = h.0; small = omega (arith, w, k.types); stands = h.1 }
ranked s k (OfField t) h = let w = slice_get_within s.fields h.0 _ h.1 in record { rank = h.0; small = omega (arith, w, k.fields); stands = h.1 }
ranked s k (OfMethod t) h = let w = slice_get_within s.methods h.0 _ h.1 in record { rank = h.0; small = omega (arith, w, k.methods); stands = h.1 }

mutual
  value_ranked : (s : Five) → FewNames s → (v : Value) → AllByRecursion (HasIndex (NameRanks s)) (names_of_value v) → NamesHold (IsRanked s) v
  value_ranked s k (Named n) h = ranked s k n h.0
  value_ranked s k (Enum f) h = ranked s k (OfField f) h.0
  value_ranked s k (Array vs) h = all_ranked s k vs h
  value_ranked s k _ h = tt

  all_ranked : (s : Five) → FewNames s → (vs : Values) → AllByRecursion (HasIndex (NameRanks s)) (names_of_values vs) → AllNamesHold (IsRanked s) vs
  all_ranked s k no_values h = tt
  all_ranked s k (more_values v vs) h = (value_ranked s k v (all_front (HasIndex (NameRanks s)) (names_of_value v) (names_of_values vs) h), all_ranked s k vs (all_back (HasIndex (NameRanks s)) (names_of_value v) (names_of_values vs) h))

pub values_ranked : (s : Five) (p : Program) (cs : List class.Class) (k : ℕ) (d : class.Class) → s ≡ needed p → FewNames s → p ≡ map view.class cs → k < length cs → AllNamesHold (IsRanked s) (values (map view.value (get_or cs k d).values.now))
values_ranked s p cs k d e f m lt = all_ranked s f _ (values_kept (HasIndex (NameRanks s)) (view.class (get_or cs k d)) (class_named s p cs k d e m lt))

-- ---- an array that is written once

pub array_used : (s : Five) (kept more : List Entry) (old new : List ℕ) (xs : List made.Value) (bytes : List ℕ) (place : ℕ) → 0 < length xs → AreBytes bytes → Shortest (SpellsArray (NameRanks s)) bytes (map view.value xs) → PutsOnce 1 kept more old new bytes place
    → UsesItem is_empty_list (WritesArray s) 1 kept more old new (map view.value xs) place
array_used s kept more old new xs bytes place some are p u =
    let n = length-map xs view.value in
    rw (not_none (map view.value xs) (omega (arith, n, some))) (bytes, record { packs = p; are = are }, u)
