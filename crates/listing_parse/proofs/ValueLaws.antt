-- The values of static fields.
use Rattle.std.proofs.Common.{◌≡◌, suc, ◌<◌, if◌then◌else◌, Bool, true, false, inl, inr, List, [], ◌∷◌, map, take, Option, Some, None, refl, sym, ap, subst, ◌∙◌, arith, add-one}
use Rattle.std.specs.List.{AllByRecursion}
use Rattle.std.proofs.lemmas.Bool.{cases_lt, lt-ltb}
use Rattle.program_types.specs.Content.{Value}
use Rattle.listing_parse.specs.Members.{Given, value_or_zero, is_given, given_length, values_of}
use Rattle.listing_parse.specs.Classes.{IsZero, IsValue, HasNone, AreValues}
use Rattle.listing_parse.proofs.ZeroLaws.{zero_there, zero_one}

value_there : (g : Given) (o : Option Value) → g.value ≡ o → IsValue g.field.ty g.value (value_or_zero g)
value_there g None e = rw e (zero_there g.field.ty)
value_there g (Some v) e = rw e refl

value_one : (g : Given) (o : Option Value) (v : Value) → g.value ≡ o → IsValue g.field.ty g.value v → value_or_zero g ≡ v
value_one g None v e h = let k : IsZero g.field.ty v = rw e at h in rw e (sym (zero_one g.field.ty v k))
value_one g (Some w) v e h = let k : w ≡ v = rw e at h in rw e k

none_length : (gs : List Given) → AllByRecursion HasNone gs → given_length gs ≡ 0
unfolding given_length
none_length [] h = refl
none_length (g ∷ gs) h = rw (none_length gs h.1, h.0) refl

more_length : (g : Given) (gs : List Given) → 0 < given_length gs → given_length (g ∷ gs) ≡ suc (given_length gs)
unfolding given_length
more_length g gs l = rw (lt-ltb 0 (given_length gs) l) (add-one (given_length gs))

last_length : (g : Given) (gs : List Given) → given_length gs ≡ 0 → given_length (g ∷ gs) ≡ (if is_given g then 1 else 0)
unfolding given_length
last_length g gs e = rw e refl

-- The values of more fields than these.
values_more : (g : Given) (gs : List Given) → 0 < given_length gs → values_of (g ∷ gs) ≡ value_or_zero g ∷ values_of gs
values_more g gs l = ap (λ n. map value_or_zero (take n (g ∷ gs))) (more_length g gs l)

values_last : (g : Given) (gs : List Given) → given_length gs ≡ 0 → values_of (g ∷ gs) ≡ map value_or_zero (take (if is_given g then 1 else 0) (g ∷ gs))
values_last g gs e = ap (λ n. map value_or_zero (take n (g ∷ gs))) (last_length g gs e)

values_none : (gs : List Given) → given_length gs ≡ 0 → values_of gs ≡ []
values_none gs e = ap (λ n. map value_or_zero (take n gs)) e

pub values_one : (gs : List Given) (vs : List Value) → AreValues gs vs → vs ≡ values_of gs
values_one [] [] h = sym (values_none [] (none_length [] h))
values_one (g ∷ gs) [] h = sym (values_none (g ∷ gs) (none_length (g ∷ gs) h))
values_one [] (v ∷ vs) h = absurd h
values_one (g ∷ gs) (v ∷ []) h = sym (values_last g gs (none_length gs h.1) ∙ given h.0)
  where
    given : g.value ≡ Some v → map value_or_zero (take (if is_given g then 1 else 0) (g ∷ gs)) ≡ v ∷ []
    given e = rw e refl
values_one (g ∷ gs) (v ∷ (w ∷ vs)) h =
    let t = values_one gs (w ∷ vs) h.1 in
    elim (cases_lt 0 (given_length gs)) [
      | inl l ↦ sym (values_more g gs l ∙ ap (λ x. x ∷ values_of gs) (value_one g g.value v refl h.0) ∙ ap (λ l. v ∷ l) (sym t))
      | inr n ↦ let z : given_length gs ≡ 0 = omega arith in let e : w ∷ vs ≡ [] = t ∙ values_none gs z in absurd cc
    ]

none_given : (g : Given) (o : Option Value) → g.value ≡ o → is_given g ≡ false → HasNone g
none_given g None e n = e
none_given g (Some v) e n = let k : true ≡ false = rw e at n in absurd cc

some_given : (g : Given) (o : Option Value) → g.value ≡ o → is_given g ≡ true → g.value ≡ Some (value_or_zero g)
some_given g None e n = let k : false ≡ true = rw e at n in absurd cc
some_given g (Some v) e n = rw e refl

length_none : (gs : List Given) → given_length gs ≡ 0 → AllByRecursion HasNone gs
length_none [] e = tt
length_none (g ∷ gs) e = elim (cases_lt 0 (given_length gs)) [
  | inl l ↦ let f = more_length g gs l in absurd (omega arith)
  | inr n ↦ let z : given_length gs ≡ 0 = omega arith in by z (is_given g) refl (length_none gs z)
]
  where
    by : given_length gs ≡ 0 → (b : Bool) → is_given g ≡ b → AllByRecursion HasNone gs → AllByRecursion HasNone (g ∷ gs)
    by z true i a = let f : given_length (g ∷ gs) ≡ 1 = last_length g gs z ∙ ap (λ b. if b then 1 else 0) i in absurd (omega arith)
    by z false i a = (none_given g g.value refl i, a)

pub values_there : (gs : List Given) → AreValues gs (values_of gs)
values_there [] = subst (AreValues []) (sym (values_none [] (none_length [] tt))) tt
values_there (g ∷ gs) = elim (cases_lt 0 (given_length gs)) [
  | inl l ↦ subst (AreValues (g ∷ gs)) (sym (values_more g gs l)) (more (values_of gs) (values_there gs) l)
  | inr n ↦ let z : given_length gs ≡ 0 = omega arith in subst (AreValues (g ∷ gs)) (sym (values_last g gs z)) (last z (is_given g) refl)
]
  where
    more : (vs : List Value) → AreValues gs vs → 0 < given_length gs → AreValues (g ∷ gs) (value_or_zero g ∷ vs)
    more [] h l = let z = none_length gs h in absurd (omega arith)
    more (w ∷ vs) h l = (value_there g g.value refl, h)

    last : given_length gs ≡ 0 → (b : Bool) → is_given g ≡ b → AreValues (g ∷ gs) (map value_or_zero (take (if is_given g then 1 else 0) (g ∷ gs)))
    last z true i = rw i (some_given g g.value refl i, length_none gs z)
    last z false i = rw i (none_given g g.value refl i, length_none gs z)
