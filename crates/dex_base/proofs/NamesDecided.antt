-- Which units are names and descriptors is decided.
use Rattle.std.proofs.Common.{◌≡◌, ℕ, zero, suc, ◌+◌, ◌<◌, ◌≤◌, inl, inr, List, [], ◌∷◌, ◌++◌, length, take, drop, replicate, refl, sym, ap, ◌∙◌, subst, arith, length-append, length-drop}
use Rattle.std.specs.Prelude.{codes, slice_index}
use Rattle.std.proofs.lemmas.List.{take_at, drop_at, length-replicate}
use Rattle.std.proofs.lemmas.Bool.{cases_eq}
use Rattle.dex_base.specs.Grammar.{Takes, Each}
use Rattle.dex_base.specs.inner.Names.{SpellsPoint}
use Rattle.dex_base.specs.Descriptor.{IsWithin, IsNamePoint, point_units, IsSimpleName, IsMemberName, Joins, IsClassName, IsClass, IsPrimitive, IsElement, IsFieldType, IsDescriptor, IsArray}
use Rattle.dex_base.proofs.NameLaws.{point_some, point_front, point_unique, each_is, each_from, simple_some}
use Rattle.dex_base.proofs.TakesLaws.{Takes-length, Takes-unique}
use Rattle.dex_base.specs.Deciding.{Decided, DecidedFront}
use Rattle.dex_base.proofs.Deciding.{decide_both, decide_either, decide_le, decide_list, decide_below, decide_bounded}

-- ---- code points

within : (low high c : ℕ) → Decided (IsWithin low high c)
within low high c = decide_both (decide_le low c) (decide_le c high)

decide_name_point : (c : ℕ) → Decided (IsNamePoint c)
decide_name_point c =
    decide_either (within 65 90 c) (decide_either (within 97 122 c) (decide_either (within 48 57 c) (decide_either (cases_eq c 36) (decide_either (cases_eq c 45) (decide_either (cases_eq c 95)
    (decide_either (within 0xa1 0x1fff c) (decide_either (within 0x2010 0x2027 c) (decide_either (within 0x2030 0xd7ff c) (decide_either (within 0xe000 0xffef c) (within 0x10000 0x10ffff c))))))))))

point_below : (c : ℕ) → IsNamePoint c → c < 0x110000
point_below c h = omega (arith, h)

decide_point : (units : List ℕ) → DecidedFront SpellsPoint units
decide_point = decide_bounded SpellsPoint 0x110000 (λ front c s. point_below c s.0) (λ front c. decide_both (decide_name_point c) (decide_list front (point_units c)))

-- ---- simple names

-- points, one after the other
ArePoints : List ℕ → Type 0
ArePoints units = (points : List ℕ) × Each SpellsPoint units points

no_point : (units : List ℕ) → 0 < length units → ((c : ℕ) (rest : List ℕ) → Takes SpellsPoint units c rest → ⊥) → (points : List ℕ) → Each SpellsPoint units points → ⊥
no_point units some none [] e = let n : length units ≡ 0 = ap length e in omega (arith, n, some)
no_point units some none (c ∷ points) e = none c e.1 (record { front = e.0; whole = e.2; spelled = e.3 })

no_more : (units mid : List ℕ) (c : ℕ) → 0 < length units → Takes SpellsPoint units c mid → ((points : List ℕ) → Each SpellsPoint mid points → ⊥) → (points : List ℕ) → Each SpellsPoint units points → ⊥
no_more units mid c some t none [] e = let n : length units ≡ 0 = ap length e in omega (arith, n, some)
no_more units mid c some t none (d ∷ points) e =
    let same = (Takes-unique SpellsPoint units d c e.1 mid point_unique (record { front = e.0; whole = e.2; spelled = e.3 }) t).1 in
    none points (subst (λ (l : List ℕ). Each SpellsPoint l points) same e.4)

decide_points : (n : ℕ) (units : List ℕ) → length units ≤ n → Decided (ArePoints units)
unfolding ArePoints
decide_points n [] le = inl ([], refl)
decide_points zero (u ∷ us) le = absurd (omega (arith, le))
decide_points (suc n) (u ∷ us) le = elim (decide_point (u ∷ us)) [
  | inl x ↦
      let t = x.2 in
      let some = point_some (t.front ++ x.1) x.0 (length t.front) (point_front x.0 t.front x.1 t.spelled) in
      let size = Takes-length SpellsPoint (u ∷ us) x.0 x.1 t in
      elim (decide_points n x.1 (omega (arith, some, size, le))) [
        | inl y ↦ inl (x.0 ∷ y.0, (t.front, x.1, t.whole, t.spelled, y.1))
        | inr none ↦ inr (λ z. no_more (u ∷ us) x.1 x.0 (omega arith) t (λ points e. none (points, e)) z.0 z.1)
      ]
  | inr none ↦ inr (λ z. no_point (u ∷ us) (omega arith) none z.0 z.1)
]

pub decide_simple : (units : List ℕ) → Decided (IsSimpleName units)
unfolding ArePoints
decide_simple units = elim (decide_points (length units) units (omega arith)) [
  | inl x ↦ by x.0 x.1
  | inr none ↦ inr (λ s. none (s.points, subst (λ (u : List ℕ). Each SpellsPoint u s.points) (sym s.spelled) (each_from s.points s.allowed)))
]
  where
    by : (points : List ℕ) → Each SpellsPoint units points → Decided (IsSimpleName units)
    by [] e = inr (λ s. let some = simple_some units s in let n : length units ≡ 0 = ap length e in omega (arith, n, some))
    by (c ∷ points) e = let is = each_is (c ∷ points) units e in inl (record { points = c ∷ points; some = λ h. absurd cc; allowed = is.0; spelled = is.1 })

-- ---- between two units

pub decide_inside : (IsText : List ℕ → Type 0) → ((units : List ℕ) → Decided (IsText units)) → (first last : ℕ) (units : List ℕ) → Decided ((inner : List ℕ) × IsText inner × (units ≡ first ∷ inner ++ last ∷ []))
decide_inside IsText d first last units =
    elim (decide_below (λ k. IsText (take k (drop 1 units)) × (units ≡ first ∷ take k (drop 1 units) ++ last ∷ [])) (λ k. decide_both (d (take k (drop 1 units))) (decide_list units (first ∷ take k (drop 1 units) ++ last ∷ []))) (length units + 1)) [
      | inl x ↦ inl (take x.0 (drop 1 units), x.2.0, x.2.1)
      | inr none ↦ inr (λ z.
          let tail : drop 1 units ≡ z.0 ++ last ∷ [] = ap (drop 1) z.2 in
          let same : take (length z.0) (drop 1 units) ≡ z.0 = ap (take (length z.0)) tail ∙ take_at z.0 (last ∷ []) (length z.0) refl in
          let size : length units ≡ suc (length (z.0 ++ last ∷ [])) = ap length z.2 in
          let more = length-append z.0 (last ∷ []) in
          none (length z.0, omega (arith, size, more), (subst IsText (sym same) z.1, z.2 ∙ ap (λ l. first ∷ l ++ last ∷ []) (sym same))))
    ]

pub decide_member : (units : List ℕ) → Decided (IsMemberName units)
decide_member units = decide_either (decide_simple units) (decide_inside IsSimpleName decide_simple 60 62 units)

-- ---- class names

class_some : (units : List ℕ) (names : List (List ℕ)) → Joins units names → 0 < length units
class_some units [] j = absurd j
class_some units (n ∷ []) j = let some = simple_some n j.0 in let e = ap length j.1 in omega (arith, some, e)
class_some units (n ∷ m ∷ ns) j = let e : length units ≡ length (n ++ 47 ∷ j.1.0) = ap length j.1.1 in let more = length-append n (47 ∷ j.1.0) in omega (arith, e, more)

drop_past : (a : List ℕ) (c : ℕ) (rest : List ℕ) → drop (length a + 1) (a ++ c ∷ rest) ≡ rest
drop_past [] c rest = refl
drop_past (x ∷ xs) c rest = let e : suc (length xs) + 1 ≡ suc (length xs + 1) = omega arith in rw e (drop_past xs c rest)

-- the first name ends before unit k
IsCutAt : List ℕ → ℕ → Type 0
IsCutAt units k = IsSimpleName (take k units) × ((units ≡ take k units ++ 47 ∷ drop (k + 1) units) × IsClassName (drop (k + 1) units))

cut_joins : (units : List ℕ) (k : ℕ) → IsCutAt units k → IsClassName units
unfolding IsCutAt
cut_joins units k c = by c.1.1.0 c.1.1.1
  where
    by : (names : List (List ℕ)) → Joins (drop (k + 1) units) names → IsClassName units
    by [] j = absurd j
    by (m ∷ ns) j = (take k units ∷ m ∷ ns, (c.0, (drop (k + 1) units, c.1.0, j)))

joins_cut : (units : List ℕ) → (IsSimpleName units → ⊥) → ((k : ℕ) × (k < length units) × IsCutAt units k → ⊥) → (names : List (List ℕ)) → Joins units names → ⊥
unfolding IsCutAt
joins_cut units nay none [] j = j
joins_cut units nay none (n ∷ []) j = nay (subst IsSimpleName (sym j.1) j.0)
joins_cut units nay none (n ∷ m ∷ ns) j =
    let rest = j.1.0 in
    let e : units ≡ n ++ 47 ∷ rest = j.1.1 in
    let front : take (length n) units ≡ n = ap (take (length n)) e ∙ take_at n (47 ∷ rest) (length n) refl in
    let back : drop (length n + 1) units ≡ rest = ap (drop (length n + 1)) e ∙ drop_past n 47 rest in
    let size : length units ≡ length (n ++ 47 ∷ rest) = ap length e in
    let more = length-append n (47 ∷ rest) in
    none (length n, omega (arith, size, more), (subst IsSimpleName (sym front) j.0, (e ∙ (λ i. sym front i ++ 47 ∷ sym back i), (m ∷ ns, subst (λ (l : List ℕ). Joins l (m ∷ ns)) (sym back) j.1.2))))

decide_joined : (n : ℕ) (units : List ℕ) → length units ≤ n → Decided (IsClassName units)
unfolding IsCutAt
decide_joined zero units le = inr (λ x. let some = class_some units x.0 x.1 in omega (arith, some, le))
decide_joined (suc n) units le = elim (decide_simple units) [
  | inl s ↦ inl (units ∷ [], (s, refl))
  | inr nay ↦ elim (decide_below (IsCutAt units) (λ k. decide_both (decide_simple (take k units)) (decide_both (decide_list units (take k units ++ 47 ∷ drop (k + 1) units)) (decide_joined n (drop (k + 1) units) (let l = length-drop (k + 1) units in omega (arith, l, le))))) (length units)) [
    | inl x ↦ inl (cut_joins units x.0 x.2)
    | inr none ↦ inr (λ z. joins_cut units nay none z.0 z.1)
  ]
]

pub decide_class : (units : List ℕ) → Decided (IsClass units)
decide_class units = decide_inside IsClassName (λ name. decide_joined (length name) name (omega arith)) 76 59 units

-- ---- descriptors

decide_primitive : (c : ℕ) → Decided (IsPrimitive c)
decide_primitive c =
    decide_either (cases_eq c 90) (decide_either (cases_eq c 66) (decide_either (cases_eq c 83) (decide_either (cases_eq c 67) (decide_either (cases_eq c 73) (decide_either (cases_eq c 74) (decide_either (cases_eq c 70) (cases_eq c 68)))))))

decide_one : (units : List ℕ) → Decided ((c : ℕ) × IsPrimitive c × (units ≡ c ∷ []))
decide_one [] = inr (λ x. let e = x.2 in absurd cc)
decide_one (c ∷ []) = elim (decide_primitive c) [
  | inl p ↦ inl (c, p, refl)
  | inr nay ↦ inr (λ x. let e = x.2 in let same : x.0 ≡ c = cc in nay (subst IsPrimitive same x.1))
]
decide_one (c ∷ d ∷ units) = inr (λ x. let e = x.2 in absurd cc)

decide_element : (units : List ℕ) → Decided (IsElement units)
decide_element units = decide_either (decide_one units) (decide_class units)

decide_field : (units : List ℕ) → Decided (IsFieldType units)
decide_field units =
    elim (decide_below (λ n. IsElement (drop n units) × (units ≡ replicate n 91 ++ drop n units)) (λ n. decide_both (decide_element (drop n units)) (decide_list units (replicate n 91 ++ drop n units))) 256) [
      | inl x ↦ inl (x.0, drop x.0 units, (let lt = x.1 in omega (arith, lt)), x.2.0, x.2.1)
      | inr none ↦ inr (λ z.
          let same : drop z.0 units ≡ z.1 = ap (drop z.0) z.4 ∙ drop_at (replicate z.0 91) z.1 z.0 (length-replicate z.0 91) in
          let le = z.2 in
          none (z.0, omega (arith, le), (subst IsElement (sym same) z.3, z.4 ∙ ap (λ l. replicate z.0 91 ++ l) (sym same))))
    ]

pub decide_descriptor : (units : List ℕ) → Decided (IsDescriptor units)
decide_descriptor units = decide_either (decide_list units (codes "V")) (decide_field units)

pub decide_array : (units : List ℕ) → Decided (IsArray units)
decide_array units = decide_both (decide_descriptor units) (cases_eq (slice_index units 0) 91)
