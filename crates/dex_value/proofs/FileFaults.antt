-- A fault stands exactly where no array does; and the names in an array that stands have rows.
use Rattle.std.proofs.Common.{ℕ, inl, inr, List, [], ◌∷◌, ◌-◌, take, drop, sym, subst}
use Rattle.std.specs.List.{AllByRecursion, flat_map}
use Rattle.dex_base.specs.declared.fault.Fault.{Fault}
use Rattle.dex_base.specs.Grammar.{Takes, Each}
use Rattle.dex_container.specs.Frame.{IsFramed}
use Rattle.program_types.specs.Content.{Name, Value, Named, Enum, Array, Values, no_values, more_values}
use Rattle.program_types.specs.Mentions.{names_of_value, names_of_values}
use Rattle.tables_rows.specs.Sorted.{TablesHold}
use Rattle.tables_rows.specs.Stands.{NameStands}
use Rattle.tables_rows.specs.Stands.{HasRow}
use Rattle.dex_container.proofs.PlacesDecided.{HasSection, at_front}
use Rattle.dex_value.specs.Spelling.{SpellsValue, SpellsValues, SpellsArray, unsigned_of}
use Rattle.dex_value.specs.Standing.{ArrayStands}
use Rattle.dex_value.specs.Faults.{ArrayBreaksAt}
use Rattle.dex_value.proofs.Places.{outside_none}
use Rattle.dex_value.proofs.Refusing.{array_none}
use Rattle.dex_base.specs.Fields.{AreBytes}
use Rattle.dex_value.proofs.Carrying.{NameStands-functional}
use Rattle.dex_value.proofs.ArraysDecided.{arrays_are_decided}
use Rattle.dex_base.proofs.ListFacts.{all_append}

pub stands_without_fault : (b : List ℕ) → IsFramed b → (off most : ℕ) (vs : List Value) → ArrayStands (NameStands b) b off most vs → (e : Fault) → ArrayBreaksAt (NameStands b) b off most e → ⊥
stands_without_fault b framed off most vs a e (inl u) = outside_none (NameStands b) b off most vs u.0 a
stands_without_fault b framed off most vs a e (inr u) =
    let rest = u.2 in
    let s : HasSection b 0x2005 = record { begin = rest.begin; end = u.0; section = rest.section } in
    let after = drop a.stands.size (take (u.0 - off) (drop off b)) in
    array_none (NameStands b) (NameStands-functional b framed) off u.0 most u.1 e u.3 vs after
    (subst (λ (l : List ℕ). Takes (SpellsArray (NameStands b)) l vs after) (sym rest.same) (at_front (SpellsArray (NameStands b)) b framed 0x2005 1 off s vs a.stands)) a.few a.deep

pub stands_where_no_fault : (b : List ℕ) → AreBytes b → IsFramed b → TablesHold b → (off most : ℕ) → ((e : Fault) → ArrayBreaksAt (NameStands b) b off most e → ⊥) → (vs : List Value) × ArrayStands (NameStands b) b off most vs
stands_where_no_fault b are framed hold off most none = elim (arrays_are_decided b are framed hold off most) [ inl x ↦ x | inr f ↦ absurd (none f.0 f.1) ]

-- ---- names

module _ (N : ℕ → Name → Type 0) where
  -- an index stands for the name
  abbrev HasIndex : Name → Type 0
  HasIndex which = (i : ℕ) × N i which

  mutual
    value_has : (v : Value) (bytes : List ℕ) → SpellsValue N bytes v → AllByRecursion HasIndex (names_of_value v)
    value_has (Named which) bytes s = ((unsigned_of s.low, s.means), tt)
    value_has (Enum constant) bytes s = ((unsigned_of s.low, s.means), tt)
    value_has (Array vs) bytes s = let b = s.2 in values_have vs b.back b.means
    value_has _ bytes s = tt

    values_have : (vs : Values) (bytes : List ℕ) → SpellsValues N bytes vs → AllByRecursion HasIndex (names_of_values vs)
    values_have no_values bytes s = tt
    values_have (more_values v vs) bytes s = all_append HasIndex (names_of_value v) (names_of_values vs) (value_has v s.0 s.3) (values_have vs s.1 s.4)

  each_has : (vs : List Value) (bytes : List ℕ) → Each (SpellsValue N) bytes vs → AllByRecursion HasIndex (flat_map names_of_value vs)
  each_has [] bytes s = tt
  each_has (v ∷ vs) bytes s = all_append HasIndex (names_of_value v) (flat_map names_of_value vs) (value_has v s.0 s.3) (each_has vs s.1 s.4)

pub names_have_rows : (b : List ℕ) (off most : ℕ) (vs : List Value) → ArrayStands (NameStands b) b off most vs → AllByRecursion (HasRow b) (flat_map names_of_value vs)
names_have_rows b off most vs a = let s = a.stands.spelled in each_has (NameStands b) vs s.back s.second.1
