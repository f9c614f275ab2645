-- What values are known to be by their types alone: their numbers fit, and so do the units of their names, however deep they are.
use Rattle.std.proofs.Common.{◌≡◌, ℕ, ◌+◌, ◌<◌, max, sym, subst, List, [], ◌∷◌, map, arith, zero, suc}
use mir.Syntax.{w8, w16, w32, w64}
use mir.Val.{Val}
use base.Fml.{Lft, Fml}
use denote.RattleType.{RattleType}
use denote.Ref.{NamedLft}
use denote.Param.Weighed.{most}
use denote.Enum.Declared.{shape, intoss}
use denote.Known.{Says, says_so, Says-map, Known, All, Knownss, LiveFacts, uint_known, sint_known, shr_slice_known, declared_enum_known}
use Rattle.program_types.specs.contracts.value.Value as Value
use Rattle.program_types.specs.declared.value.Value.TheVariants.{the_data}
use Rattle.program_types.specs.declared.value.Value.TheOpen.{Value-F}
use Rattle.program_types.specs.declared.value.Value.TheOpen as layer
use Rattle.program_types.specs.declared.value.Value.TheViews.{out-Value, roll-out-Value, size-Value, size_is-Value}
use Rattle.program_types.specs.declared.value.Value.TheBlock.{split-Value, weighs-Value, the_depth, the_family}
use Rattle.program_types.specs.declared.value.Value.TheFolds.{map-Value, fold-roll-Value}
use Rattle.program_types.specs.Content as content
use Rattle.program_types.specs.Mentions.{AllNamesHold}
use Rattle.program_types.specs.View.{value, value_step}
use Rattle.program_rules.specs.Ranges.{NameInRange, ValuesInRange}
use Rattle.program_rules.proofs.PartRanges.{ValueFits}
use Rattle.program_rules.proofs.NameFacts.{◌&◌, no, str, desc, field, method}

-- a value is one larger than its layer, and an array's layer as large as the largest value in it
layer_less : (size weight n : ℕ) → size ≡ weight + 1 → size < suc n → weight < n
layer_less size weight n e l = omega (arith, e, l)

inner_less : (weight n : ℕ) → max weight 0 < n → weight < n
inner_less weight n l = omega (arith, l)

-- values that are smaller than n fit
values_fit : (n : ℕ) (xs : List the_data) → All (λ x. size-Value x < n → ValueFits (value x)) xs → most size-Value xs < n
    → ValuesInRange (content.values (map value xs)) × AllNamesHold NameInRange (content.values (map value xs))
values_fit n [] h s = (tt, tt)
values_fit n (x ∷ xs) h s =
    let f : ValueFits (value x) = h 0 x (omega arith) (omega (arith, s)) in
    let r = values_fit n xs (λ i d l. h (suc i) d (omega arith)) (omega (arith, s)) in
    ((f.0, r.0), (f.1, r.1))

-- a fact of a type's values that both owning one and a `&` to it tell
record Tells (R : RattleType) (K : R.Denot → Type 0) : Type 2 where
  pub owned : (x : R.Denot) (vs : List Val) → Says (R.own_val x vs) (K x)
  pub shared : (x : R.Denot) (b at : ℕ) (κ : Lft) → Says (R.shr_at x b at κ) (K x)

module _ (a : NamedLft) where
  abbrev hole : RattleType
  hole = Value.the_hole a

  abbrev Less : ℕ → the_data → Type 0
  Less n d = size-Value d < n → ValueFits (value d)

  module _ (n : ℕ) (inner : Tells hole (Less n)) where
    abbrev inside : Known hole
    inside = record { Fact = Less n; owned = inner.owned; shared = inner.shared }

    abbrev parts : Knownss (shape (Value.the_type a)).variants
    parts = ((sint_known w8 & tt) & (sint_known w16 & tt) & (uint_known w16 & tt) & (sint_known w32 & tt) & (sint_known w64 & tt) & (uint_known w32 & tt) & (uint_known w64 & tt)
        & (str a & tt) & (desc a & tt) & (field a & tt) & (method a & tt) & (field a & tt) & (shr_slice_known hole inside a.mir a.lft & tt) & tt & (no & tt) & tt)

    abbrev outer : Known (Value.the_row a)
    outer = declared_enum_known (Value.the_type a) parts

    by_layer : (x : Value-F the_data) → LiveFacts (shape (Value.the_type a)).variants parts (intoss (Value.the_parts a) (split-Value the_family x))
        → weighs-Value.weight the_family the_depth x < n → ValueFits (value_step (map-Value the_data content.Value value x))
    by_layer (layer.Byte z) f l = (record { sfits = f.0 }, tt)
    by_layer (layer.Short z) f l = (record { sfits = f.0 }, tt)
    by_layer (layer.Char u) f l = (f.0, tt)
    by_layer (layer.Int z) f l = (record { sfits = f.0 }, tt)
    by_layer (layer.Long z) f l = (record { sfits = f.0 }, tt)
    by_layer (layer.Float u) f l = (f.0, tt)
    by_layer (layer.Double u) f l = (f.0, tt)
    by_layer (layer.Array vs) f l = values_fit n vs.now f.0 (inner_less _ n l)
    by_layer layer.Null f l = (tt, tt)
    by_layer (layer.Bool t) f l = (tt, tt)
    by_layer _ f l = (tt, f.0)

    by_outer : (d : the_data) → outer.Fact d → Less (suc n) d
    by_outer d f l = subst (λ (x : the_data). ValueFits (value x)) (roll-out-Value d)
        (subst ValueFits (sym (fold-roll-Value content.Value value_step (out-Value d))) (by_layer (out-Value d) f (layer_less _ _ n (size_is-Value d) l)))

    one_more : Tells (Value.the_row a) (Less (suc n))
    one_more = record { owned = λ d vs. Says-map _ (by_outer d) (outer.owned d vs); shared = λ d b at κ. Says-map _ (by_outer d) (outer.shared d b at κ) }

  at_hole : (K : the_data → Type 0) → Tells (Value.the_row a) K → Tells hole K
  at_hole K t = record {
    owned = λ d vs. subst (λ (F : List Val → Fml). Says (F vs) (K d)) (sym (Value.own_is a d)) (t.owned d vs);
    shared = λ d b at κ. subst (λ (F : ℕ → ℕ → Lft → Fml). Says (F b at κ) (K d)) (sym (Value.shr_is a d)) (t.shared d b at κ);
  }

  -- of values that are smaller than n, since the values in an array are smaller than the array
  smaller : (n : ℕ) → Tells hole (Less n)
  smaller zero = record { owned = λ d vs. says_so _ (λ l. absurd (omega arith)); shared = λ d b at κ. says_so _ (λ l. absurd (omega arith)) }
  smaller (suc n) = at_hole (Less (suc n)) (one_more n (smaller n))

  pub value_owned : (d : the_data) (vs : List Val) → Says ((Value.the_row a).own_val d vs) (ValueFits (value d))
  value_owned d vs = Says-map _ (λ f. f (omega arith)) ((one_more (size-Value d) (smaller (size-Value d))).owned d vs)

  pub value_shared : (d : the_data) (b at : ℕ) (κ : Lft) → Says ((Value.the_row a).shr_at d b at κ) (ValueFits (value d))
  value_shared d b at κ = Says-map _ (λ f. f (omega arith)) ((one_more (size-Value d) (smaller (size-Value d))).shared d b at κ)

  -- of every value
  abbrev pub each_value : Known (Value.the_row a)
  each_value = record { Fact = λ d. ValueFits (value d); owned = value_owned; shared = value_shared }
