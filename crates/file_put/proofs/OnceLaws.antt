-- No two classes have one class data.
use Rattle.std.proofs.Common.{◌≡◌, ℕ, zero, suc, List, [], ◌∷◌, refl, sym, ap, ◌∙◌, subst, arith, Some, inl, inr}
use Rattle.std.specs.Prelude.{option_map}
use Rattle.std.specs.List.{slice_get}
use Rattle.std.proofs.lemmas.Option.{slice_get-map}
use Rattle.std.proofs.lemmas.Bool.{cases_lt}
use Rattle.program_types.specs.Content.{Class, Descriptor, Program}
use Rattle.program_rules.specs.Rules.{IsOfType}
use Rattle.program_rules.specs.WellFormed.{WellFormed}
use Rattle.file_put.specs.inner.Data.{ClassWithCodes, with_code_places}
use Rattle.file_put.proofs.ApartLaws.{apart_shared}
use Rattle.file_layout.specs.inner.Tiles.{AreShared}

pub sited_class : (p : Program) (codes : List ℕ) (i : ℕ) (v : ClassWithCodes) → slice_get (with_code_places p codes) i ≡ Some v → slice_get p i ≡ Some v.class
sited_class [] codes i v at = absurd cc
sited_class (c ∷ p) codes zero v at = let e : _ ≡ v = some_same _ v at in ap (λ (x : ClassWithCodes). Some x.class) e
  where
    some_same : (x y : ClassWithCodes) → Some x ≡ Some y → x ≡ y
    some_same x y e = cc
sited_class (c ∷ p) codes (suc i) v at = sited_class p _ i v at

of_type : (p : Program) (i : ℕ) (c : Class) → slice_get p i ≡ Some c → IsOfType p i c.ty
of_type p i c at = slice_get-map (λ (d : Class). d.ty) p i ∙ ap (option_map (λ (d : Class). d.ty)) at

-- no two classes have one type
pub types_apart : (p : Program) → WellFormed p → (i j : ℕ) (c d : Class) → slice_get p i ≡ Some c → slice_get p j ≡ Some d → c.ty ≡ d.ty → i ≡ j
types_apart p w i j c d at_i at_j e = elim (cases_lt i j) [
  | inl lt ↦ absurd ((w.rules j d at_j).order.once i lt (subst (λ (t : Descriptor). IsOfType p i t) e (of_type p i c at_i)))
  | inr ge ↦ elim (cases_lt j i) [
    | inl lt ↦ absurd ((w.rules i c at_i).order.once j lt (subst (λ (t : Descriptor). IsOfType p j t) (sym e) (of_type p j d at_j)))
    | inr le ↦ omega arith
  ]
]

pub datas_shared : (p : Program) → WellFormed p → (codes places : List ℕ) → AreShared places (with_code_places p codes)
datas_shared p w codes places =
    apart_shared (with_code_places p codes) places (λ i j v at_i at_j. types_apart p w i j v.class v.class (sited_class p codes i v at_i) (sited_class p codes j v at_j) refl)
