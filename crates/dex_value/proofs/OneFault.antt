-- An encoded_array has one fault: the first that is met in the order of its bytes.
use Rattle.std.proofs.Common.{◌≡◌, ℕ, zero, suc, ◌+◌, ◌-◌, ◌/◌, ◌<◌, ◌⊎◌, inl, inr, List, [], ◌∷◌, length, take, drop, sym, ap, subst, ◌∙◌, arith}
use Rattle.std.proofs.lemmas.Bool.{cases_lt}
use Rattle.dex_base.specs.Grammar.{NoneBegins, IsPrefixUnique, Takes}
use Rattle.dex_base.specs.Leb128.{Spells}
use Rattle.dex_base.specs.declared.fault.Fault.{Fault}
use Rattle.dex_base.proofs.GrammarLaws.{Each-next, Each-unique, rest_same}
use Rattle.dex_base.proofs.Numbers.{spells_unique}
use Rattle.dex_base.proofs.TakesLaws.{Takes-none, Takes-unique}
use Rattle.dex_container.specs.Frame.{IsFramed}
use Rattle.dex_container.specs.Where.{IsSectionRest}
use Rattle.dex_container.proofs.Framed.{IsSection-one}
use Rattle.program_types.specs.Content.{Name, Value}
use Rattle.program_types.specs.Depth.{most_depth}
use Rattle.dex_value.specs.Standing.{Shallow}
use Rattle.dex_value.specs.Unique.{IsFunctionalByType}
use Rattle.dex_value.specs.Faults.{IsSizedHead, IsUnknown, IsTooDeep, IsEnded, IsCut, HasNoCount, NamesNothing, OwnBreaks, NextBreaks, InsideBreaks, ValueBreaks, ArrayBreaks, ArrayBreaksAt}
use Rattle.dex_value.proofs.FrontLaws.{cons_head, shallow_unique}
use Rattle.dex_value.proofs.Refusing.{lone_not_sized, value_none}

-- ---- one value

module _ (N : ℕ → Name → Type 0) (off end : ℕ) (bytes : List ℕ) where
  same_head : (h k : ℕ) (r s : List ℕ) → bytes ≡ h ∷ r → bytes ≡ k ∷ s → (h ≡ k) × (r ≡ s)
  same_head h k r s p q = cons_head h k r s (sym p ∙ q)

  unknown_sized : IsUnknown bytes → (h : ℕ) (r : List ℕ) → bytes ≡ h ∷ r → IsSizedHead h → ⊥
  unknown_sized u h r first s = u.not_sized (subst (λ (k : ℕ). IsSizedHead k) (same_head h u.head r u.rest first u.first).0 s)

  unknown_array : IsUnknown bytes → (r : List ℕ) → bytes ≡ 28 ∷ r → ⊥
  unknown_array u r first = u.not_lone (inl (same_head u.head 28 u.rest r u.first first).0)

  array_sized : (h : ℕ) (r s : List ℕ) → bytes ≡ 28 ∷ r → bytes ≡ h ∷ s → IsSizedHead h → ⊥
  array_sized h r s p q sized = lone_not_sized h (inl (same_head h 28 s r q p).0) sized

  ended : (h : ℕ) (r : List ℕ) → bytes ≡ [] → bytes ≡ h ∷ r → ⊥
  ended h r p q = cc

  abbrev Short : ℕ → Type 0
  Short limit = IsEnded bytes ⊎ IsCut bytes ⊎ HasNoCount limit bytes

  unknown_short : (limit : ℕ) → IsUnknown bytes → Short limit → ⊥
  unknown_short limit u (inl e) = ended u.head u.rest e u.first
  unknown_short limit u (inr (inl c)) = unknown_sized u c.head c.rest c.first c.sized
  unknown_short limit u (inr (inr c)) = unknown_array u c.rest c.first

  deep_short : (limit : ℕ) → IsTooDeep limit bytes → Short limit → ⊥
  deep_short limit d (inl e) = ended 28 d.rest e d.first
  deep_short limit d (inr (inl c)) = array_sized c.head d.rest c.rest d.first c.first c.sized
  deep_short limit d (inr (inr c)) = let none = d.none_left in let some = c.some_left in omega (arith, none, some)

  short_nothing : (limit : ℕ) → Short limit → NamesNothing N bytes → ⊥
  short_nothing limit (inl e) n = ended n.head n.rest e n.first
  short_nothing limit (inr (inl c)) n =
      let same = same_head c.head n.head c.rest n.rest c.first n.first in
      let short = subst (λ (h : ℕ). length c.rest < h / 32 + 1) same.0 c.short in
      let rest = ap length same.1 in
      let whole = n.whole in
      omega (arith, short, rest, whole)
  short_nothing limit (inr (inr c)) n = array_sized n.head c.rest n.rest c.first n.first n.sized

  own_one : (limit : ℕ) (e f : Fault) → OwnBreaks N off end limit bytes e → OwnBreaks N off end limit bytes f → e ≡ f
  own_one limit e f (inl x) (inl y) = x.1 ∙ sym y.1
  own_one limit e f (inl x) (inr (inl y)) = absurd (unknown_array x.0 y.0.rest y.0.first)
  own_one limit e f (inl x) (inr (inr (inl y))) = absurd (unknown_short limit x.0 y.0)
  own_one limit e f (inl x) (inr (inr (inr y))) = absurd (unknown_sized x.0 y.0.head y.0.rest y.0.first y.0.sized)
  own_one limit e f (inr (inl x)) (inl y) = absurd (unknown_array y.0 x.0.rest x.0.first)
  own_one limit e f (inr (inl x)) (inr (inl y)) = x.1 ∙ sym y.1
  own_one limit e f (inr (inl x)) (inr (inr (inl y))) = absurd (deep_short limit x.0 y.0)
  own_one limit e f (inr (inl x)) (inr (inr (inr y))) = absurd (array_sized y.0.head x.0.rest y.0.rest x.0.first y.0.first y.0.sized)
  own_one limit e f (inr (inr (inl x))) (inl y) = absurd (unknown_short limit y.0 x.0)
  own_one limit e f (inr (inr (inl x))) (inr (inl y)) = absurd (deep_short limit y.0 x.0)
  own_one limit e f (inr (inr (inl x))) (inr (inr (inl y))) = x.1 ∙ sym y.1
  own_one limit e f (inr (inr (inl x))) (inr (inr (inr y))) = absurd (short_nothing limit x.0 y.0)
  own_one limit e f (inr (inr (inr x))) (inl y) = absurd (unknown_sized y.0 x.0.head x.0.rest x.0.first x.0.sized)
  own_one limit e f (inr (inr (inr x))) (inr (inl y)) = absurd (array_sized x.0.head y.0.rest x.0.rest y.0.first x.0.first x.0.sized)
  own_one limit e f (inr (inr (inr x))) (inr (inr (inl y))) = absurd (short_nothing limit y.0 x.0)
  own_one limit e f (inr (inr (inr x))) (inr (inr (inr y))) = x.1 ∙ sym y.1

  -- an array whose count is there has nothing wrong of its own, where a depth is left
  own_inside : (limit n : ℕ) (e : Fault) (rest after : List ℕ) → bytes ≡ 28 ∷ rest → Takes Spells rest n after → OwnBreaks N off end (suc limit) bytes e → ⊥
  own_inside limit n e rest after first counted (inl u) = unknown_array u.0 rest first
  own_inside limit n e rest after first counted (inr (inl u)) = let none = u.0.none_left in omega (arith, none)
  own_inside limit n e rest after first counted (inr (inr (inl ((inl u), is)))) = ended 28 rest u first
  own_inside limit n e rest after first counted (inr (inr (inl ((inr (inl u)), is)))) = array_sized u.head rest u.rest first u.first u.sized
  own_inside limit n e rest after first counted (inr (inr (inl ((inr (inr u)), is)))) =
      Takes-none Spells rest n after (subst (λ (l : List ℕ). NoneBegins Spells l) (same_head 28 28 u.rest rest u.first first).1 u.none) counted
  own_inside limit n e rest after first counted (inr (inr (inr u))) = array_sized u.0.head rest u.0.rest first u.0.first u.0.sized

-- ---- values, one after the other

module _ (G : List ℕ → Value → Type 0) (Breaks : List ℕ → Fault → Type 0) (unique : IsPrefixUnique G) (none : (bytes : List ℕ) (fault : Fault) → Breaks bytes fault → NoneBegins G bytes)
    (one : (bytes : List ℕ) (e f : Fault) → Breaks bytes e → Breaks bytes f → e ≡ f) (n : ℕ) (bytes : List ℕ) where
  -- where one more value is spelled, none is wrong
  passed : (e f : Fault) (x : NextBreaks G Breaks n bytes e) (y : NextBreaks G Breaks n bytes f) → length x.before < length y.before → ⊥
  passed e f x y less =
      let s = x.spelled in
      let t = y.spelled in
      let next = Each-next G unique x.before y.before s.front t.front x.left y.left less s.spelled t.spelled (sym s.whole ∙ t.whole) in
      none x.left e x.breaks next.0 next.1 next.2 next.3 next.4

  next_one : (e f : Fault) → NextBreaks G Breaks n bytes e → NextBreaks G Breaks n bytes f → e ≡ f
  next_one e f x y = elim (cases_lt (length x.before) (length y.before)) [
    | inl less ↦ absurd (passed e f x y less)
    | inr ge ↦ elim (cases_lt (length y.before) (length x.before)) [
      | inl more ↦ absurd (passed f e y x more)
      | inr le ↦
          let s = x.spelled in
          let t = y.spelled in
          let joined = sym s.whole ∙ t.whole in
          let fronts = (Each-unique G unique x.before y.before s.front t.front x.left y.left (omega (arith, ge, le)) s.spelled t.spelled joined).0 in
          let left = rest_same s.front t.front x.left y.left fronts joined in
          one y.left e f (subst (λ (l : List ℕ). Breaks l e) left x.breaks) y.breaks
    ]
  ]

module _ (N : ℕ → Name → Type 0) (named : IsFunctionalByType N) (off end : ℕ) where
  inside_one : (limit : ℕ) → ((bytes : List ℕ) (e f : Fault) → ValueBreaks N off end limit bytes e → ValueBreaks N off end limit bytes f → e ≡ f)
      → (bytes : List ℕ) (e f : Fault) → InsideBreaks (Shallow N limit) (ValueBreaks N off end limit) bytes e → InsideBreaks (Shallow N limit) (ValueBreaks N off end limit) bytes f → e ≡ f
  inside_one limit one bytes e f x y =
      let Next = NextBreaks (Shallow N limit) (ValueBreaks N off end limit) in
      let rest = (cons_head 28 28 x.rest y.rest (sym x.first ∙ y.first)).1 in
      let same = Takes-unique Spells y.rest x.n y.n x.after y.after spells_unique (subst (λ (l : List ℕ). Takes Spells l x.n x.after) rest x.counted) y.counted in
      next_one (Shallow N limit) (ValueBreaks N off end limit) (shallow_unique N named limit) (value_none N named off end limit) one y.n y.after e f
      (subst (λ (l : List ℕ). Next y.n l e) same.1 (subst (λ (n : ℕ). Next n x.after e) same.0 x.next)) y.next

  value_one : (limit : ℕ) (bytes : List ℕ) (e f : Fault) → ValueBreaks N off end limit bytes e → ValueBreaks N off end limit bytes f → e ≡ f
  value_one zero bytes e f x y = own_one N off end bytes 0 e f x y
  value_one (suc limit) bytes e f (inl x) (inl y) = own_one N off end bytes (suc limit) e f x y
  value_one (suc limit) bytes e f (inl x) (inr y) = absurd (own_inside N off end bytes limit y.n e y.rest y.after y.first y.counted x)
  value_one (suc limit) bytes e f (inr x) (inl y) = absurd (own_inside N off end bytes limit x.n f x.rest x.after x.first x.counted y)
  value_one (suc limit) bytes e f (inr x) (inr y) = inside_one limit (value_one limit) bytes e f x y

  -- ---- the array

  array_one : (most : ℕ) (bytes : List ℕ) (e f : Fault) → ArrayBreaks N off end most bytes e → ArrayBreaks N off end most bytes f → e ≡ f
  array_one most bytes e f (inl x) (inl y) = x.1 ∙ sym y.1
  array_one most bytes e f (inl x) (inr (inl y)) = absurd (Takes-none Spells bytes y.0.n y.0.after x.0 y.0.counted)
  array_one most bytes e f (inl x) (inr (inr y)) = absurd (Takes-none Spells bytes y.n y.after x.0 y.counted)
  array_one most bytes e f (inr (inl x)) (inl y) = absurd (Takes-none Spells bytes x.0.n x.0.after y.0 x.0.counted)
  array_one most bytes e f (inr (inl x)) (inr (inl y)) = x.1 ∙ sym y.1
  array_one most bytes e f (inr (inl x)) (inr (inr y)) =
      let same = (Takes-unique Spells bytes x.0.n y.n x.0.after y.after spells_unique x.0.counted y.counted).0 in
      let above = x.0.above in let few = y.few in absurd (omega (arith, same, above, few))
  array_one most bytes e f (inr (inr x)) (inl y) = absurd (Takes-none Spells bytes x.n x.after y.0 x.counted)
  array_one most bytes e f (inr (inr x)) (inr (inl y)) =
      let same = (Takes-unique Spells bytes y.0.n x.n y.0.after x.after spells_unique y.0.counted x.counted).0 in
      let above = y.0.above in let few = x.few in absurd (omega (arith, same, above, few))
  array_one most bytes e f (inr (inr x)) (inr (inr y)) =
      let Next = NextBreaks (Shallow N most_depth) (ValueBreaks N off end most_depth) in
      let same = Takes-unique Spells bytes x.n y.n x.after y.after spells_unique x.counted y.counted in
      next_one (Shallow N most_depth) (ValueBreaks N off end most_depth) (shallow_unique N named most_depth) (value_none N named off end most_depth) (value_one most_depth) y.n y.after e f
      (subst (λ (l : List ℕ). Next y.n l e) same.1 (subst (λ (n : ℕ). Next n x.after e) same.0 x.next)) y.next

-- two that go to one section's end have the same bytes
same_rest : (b : List ℕ) (off m n : ℕ) (x y : List ℕ) → m ≡ n → IsSectionRest 0x2005 b off m x → IsSectionRest 0x2005 b off n y → x ≡ y
same_rest b off m n x y e p q = p.same ∙ ap (λ (k : ℕ). take (k - off) (drop off b)) e ∙ sym q.same

pub array_one_fault : (N : ℕ → Name → Type 0) → IsFunctionalByType N → (b : List ℕ) → IsFramed b → (off most : ℕ) (e f : Fault) → ArrayBreaksAt N b off most e → ArrayBreaksAt N b off most f → e ≡ f
array_one_fault N named b framed off most e f (inl x) (inl y) = x.1 ∙ sym y.1
array_one_fault N named b framed off most e f (inl x) (inr y) = absurd (x.0 (record { begin = y.2.begin; end = y.0; section = y.2.section; after = y.2.after; before = y.2.before }))
array_one_fault N named b framed off most e f (inr x) (inl y) = absurd (y.0 (record { begin = x.2.begin; end = x.0; section = x.2.section; after = x.2.after; before = x.2.before }))
array_one_fault N named b framed off most e f (inr x) (inr y) =
    let ends = (IsSection-one b framed 0x2005 x.2.begin x.0 y.2.begin y.0 x.2.section y.2.section).1 in
    let same = same_rest b off x.0 y.0 x.1 y.1 ends x.2 y.2 in
    array_one N named off y.0 most y.1 e f
    (subst (λ (l : List ℕ). ArrayBreaks N off y.0 most l e) same (subst (λ (n : ℕ). ArrayBreaks N off n most x.1 e) ends x.3)) y.3
