-- Which units stand in names and descriptors, and what follows for where they end.
use Rattle.std.proofs.Common.{◌≡◌, ◌≢◌, ℕ, zero, suc, ◌≤◌, ◌⊎◌, inl, inr, List, [], ◌∷◌, ◌++◌, get_or, replicate, refl, sym, ap, ◌∙◌, append_assoc, arith}
use Rattle.std.proofs.lemmas.Bool.{cases_lt}
use Rattle.std.specs.List.{flat_map, All, AllByRecursion}
use Rattle.dex_base.specs.Descriptor.{IsWithin, IsNamePoint, point_units, IsSimpleName, IsMemberName, Joins, IsClassName, IsClass, IsPrimitive, IsElement, IsFieldType, IsDescriptor, IsPrefixFree}
use Rattle.dex_base.proofs.NameLaws.{units_one, units_two}
use Rattle.dex_base.proofs.ListFacts.{all_append, all_weaker}

-- ---- all elements

pub all_replicate : (P : ℕ → Type 0) (n x : ℕ) → P x → AllByRecursion P (replicate n x)
all_replicate P zero x p = tt
all_replicate P (suc n) x p = (p, all_replicate P n x p)

pub all_index : (P : ℕ → Type 0) (xs : List ℕ) → AllByRecursion P xs → All P xs
all_index P [] p k d h = absurd (omega (arith, h))
all_index P (x ∷ xs) p zero d h = p.0
all_index P (x ∷ xs) p (suc k) d h = all_index P xs p.1 k d (omega (arith, h))

-- ---- units

-- a unit of a simple name
abbrev pub IsNameUnit : ℕ → Type 0
IsNameUnit u = (u ≡ 36) ⊎ (u ≡ 45) ⊎ IsWithin 48 57 u ⊎ IsWithin 65 90 u ⊎ (u ≡ 95) ⊎ IsWithin 97 122 u ⊎ (161 ≤ u)

one_unit : (c : ℕ) → IsNamePoint c → IsNameUnit c
one_unit c h = grind arith

large_unit : (u : ℕ) → 161 ≤ u → IsNameUnit u
large_unit u h = inr (inr (inr (inr (inr (inr h)))))

point_has : (c : ℕ) → IsNamePoint c → AllByRecursion IsNameUnit (point_units c)
point_has c h = elim (cases_lt c 0x10000) [
  | inl l ↦ rw (units_one c l) (one_unit c h, tt)
  | inr l ↦ rw (units_two c l) (large_unit _ (omega arith), (large_unit _ (omega arith), tt))
]

points_have : (points : List ℕ) → AllByRecursion IsNamePoint points → AllByRecursion IsNameUnit (flat_map point_units points)
points_have [] h = tt
points_have (c ∷ points) h = all_append IsNameUnit (point_units c) (flat_map point_units points) (point_has c h.0) (points_have points h.1)

pub simple_has : (units : List ℕ) → IsSimpleName units → AllByRecursion IsNameUnit units
simple_has units s = rw s.spelled (points_have s.points s.allowed)

-- a unit of a member name
abbrev pub IsMemberUnit : ℕ → Type 0
IsMemberUnit u = IsNameUnit u ⊎ (u ≡ 60) ⊎ (u ≡ 62)

pub member_has : (units : List ℕ) → IsMemberName units → AllByRecursion IsMemberUnit units
member_has units (inl s) = all_weaker IsNameUnit IsMemberUnit (λ u h. inl h) units (simple_has units s)
member_has units (inr t) =
    let inner = all_weaker IsNameUnit IsMemberUnit (λ u h. inl h) t.0 (simple_has t.0 t.1) in
    rw t.2 (inr (inl refl), all_append IsMemberUnit t.0 (62 ∷ []) inner (inr (inr refl), tt))

-- a unit of a class name
abbrev pub IsClassUnit : ℕ → Type 0
IsClassUnit u = IsNameUnit u ⊎ (u ≡ 47)

pub joined_has : (names : List (List ℕ)) (units : List ℕ) → Joins units names → AllByRecursion IsClassUnit units
joined_has [] units j = absurd j
joined_has (n ∷ []) units j = rw j.1 (all_weaker IsNameUnit IsClassUnit (λ u h. inl h) n (simple_has n j.0))
joined_has (n ∷ m ∷ ns) units j =
    let front = all_weaker IsNameUnit IsClassUnit (λ u h. inl h) n (simple_has n j.0) in
    rw j.1.1 (all_append IsClassUnit n (47 ∷ j.1.0) front (inr refl, joined_has (m ∷ ns) j.1.0 j.1.2))

-- a unit of a descriptor
abbrev pub IsDescriptorUnit : ℕ → Type 0
IsDescriptorUnit u = IsNameUnit u ⊎ (u ≡ 47) ⊎ (u ≡ 59) ⊎ (u ≡ 91)

letter_unit : (u : ℕ) → IsWithin 65 90 u → IsDescriptorUnit u
letter_unit u h = inl (inr (inr (inr (inl h))))

primitive_letter : (c : ℕ) → IsPrimitive c → IsWithin 65 90 c
primitive_letter c p = grind arith

class_unit : (u : ℕ) → IsClassUnit u → IsDescriptorUnit u
class_unit u (inl h) = inl h
class_unit u (inr h) = inr (inl h)

class_has : (units : List ℕ) → IsClass units → AllByRecursion IsDescriptorUnit units
class_has units t =
    let name = all_weaker IsClassUnit IsDescriptorUnit class_unit t.0 (joined_has t.1.0 t.0 t.1.1) in
    rw t.2 (letter_unit 76 (omega arith, omega arith), all_append IsDescriptorUnit t.0 (59 ∷ []) name (inr (inr (inl refl)), tt))

element_has : (units : List ℕ) → IsElement units → AllByRecursion IsDescriptorUnit units
element_has units (inl t) = rw t.2 (letter_unit t.0 (primitive_letter t.0 t.1), tt)
element_has units (inr t) = class_has units t

pub descriptor_has : (units : List ℕ) → IsDescriptor units → AllByRecursion IsDescriptorUnit units
descriptor_has units (inl e) = rw e (letter_unit 86 (omega arith, omega arith), tt)
descriptor_has units (inr (n, el, small, e, eq)) =
    rw eq (all_append IsDescriptorUnit (replicate n 91) el (all_replicate IsDescriptorUnit n 91 (inr (inr (inr refl)))) (element_has el e))

-- what no name and no descriptor has: a space or control character, `(`, `)`, `:`
abbrev pub IsPlain : ℕ → Type 0
IsPlain u = (33 ≤ u) × (u ≢ 40) × (u ≢ 41) × (u ≢ 58)

plain_member : (u : ℕ) → IsMemberUnit u → IsPlain u
plain_member u h = (grind arith, λ e. grind arith, λ e. grind arith, λ e. grind arith)

plain_descriptor : (u : ℕ) → IsDescriptorUnit u → IsPlain u
plain_descriptor u h = (grind arith, λ e. grind arith, λ e. grind arith, λ e. grind arith)

pub member_units_plain : (units : List ℕ) → IsMemberName units → AllByRecursion IsPlain units
member_units_plain units m = all_weaker IsMemberUnit IsPlain plain_member units (member_has units m)

pub descriptor_units_plain : (units : List ℕ) → IsDescriptor units → AllByRecursion IsPlain units
descriptor_units_plain units d = all_weaker IsDescriptorUnit IsPlain plain_descriptor units (descriptor_has units d)

pub descriptor_not_close : (units : List ℕ) → IsDescriptor units → get_or units 0 0 ≢ 41
descriptor_not_close [] d e = absurd (omega (arith, e))
descriptor_not_close (u ∷ units) d e = (descriptor_units_plain (u ∷ units) d).0.2 e

-- ---- where a text ends

-- two texts without the unit c, each before its first c
pub before_first_same : (c : ℕ) (a b x y : List ℕ) → AllByRecursion (λ u. u ≢ c) a → AllByRecursion (λ u. u ≢ c) b → a ++ c ∷ x ≡ b ++ c ∷ y → (a ≡ b) × (x ≡ y)
before_first_same c [] [] x y p q e = (refl, cc)
before_first_same c [] (b ∷ bs) x y p q e = absurd (q.0 (let h : c ≡ b = cc in sym h))
before_first_same c (a ∷ xs) [] x y p q e = absurd (p.0 (let h : a ≡ c = cc in h))
before_first_same c (a ∷ xs) (b ∷ ys) x y p q e =
    let h : a ≡ b = cc in
    let t : xs ++ c ∷ x ≡ ys ++ c ∷ y = cc in
    let r = before_first_same c xs ys x y p.1 q.1 t in
    let s = r.0 in
    (cc, r.1)

not_end : (u : ℕ) → IsClassUnit u → u ≢ 59
not_end u h e = grind arith

pub class_prefix_free : IsPrefixFree IsClass
class_prefix_free a b x y (n, p, d) (m, q, f) e =
    let i : n ++ 59 ∷ x ≡ m ++ 59 ∷ y = sym (append_assoc n (59 ∷ []) x) ∙ inner n m d f ∙ append_assoc m (59 ∷ []) y in
    let r = before_first_same 59 n m x y (no_end n p) (no_end m q) i in
    (d ∙ ap (λ t. 76 ∷ t ++ 59 ∷ []) r.0 ∙ sym f, r.1)
  where
    no_end : (n : List ℕ) → IsClassName n → AllByRecursion (λ u. u ≢ 59) n
    no_end n p = all_weaker IsClassUnit (λ u. u ≢ 59) not_end n (joined_has p.0 n p.1)

    inner : (n m : List ℕ) → a ≡ 76 ∷ n ++ 59 ∷ [] → b ≡ 76 ∷ m ++ 59 ∷ [] → (n ++ 59 ∷ []) ++ x ≡ (m ++ 59 ∷ []) ++ y
    inner n m d f = let h : (76 ∷ n ++ 59 ∷ []) ++ x ≡ (76 ∷ m ++ 59 ∷ []) ++ y = ap (λ t. t ++ x) (sym d) ∙ e ∙ ap (λ t. t ++ y) f in cc

-- the first unit of an element is a primitive type or `L`

pub head_of : (el rest : List ℕ) → IsElement el → IsPrimitive (get_or (el ++ rest) 0 0) ⊎ (get_or (el ++ rest) 0 0 ≡ 76)
head_of el rest (inl t) = rw t.2 (inl t.1)
head_of el rest (inr t) = rw t.2 (inr refl)

head_not : (c : ℕ) → IsPrimitive c ⊎ (c ≡ 76) → (c ≢ 91) × (c ≢ 86)
head_not c h = (λ e. grind arith, λ e. grind arith)

pub element_not_open : (el rest : List ℕ) → IsElement el → get_or (el ++ rest) 0 0 ≡ 91 → ⊥
element_not_open el rest h e = (head_not _ (head_of el rest h)).0 e

pub primitive_not_class : (c : ℕ) → IsPrimitive c → c ≢ 76
primitive_not_class c p e = grind arith

pub element_prefix_free : IsPrefixFree IsElement
element_prefix_free a b x y (inl p) (inl q) e =
    let h : p.0 ∷ x ≡ q.0 ∷ y = ap (λ t. t ++ x) (sym p.2) ∙ e ∙ ap (λ t. t ++ y) q.2 in
    let c : p.0 ≡ q.0 = cc in
    (p.2 ∙ ap (λ u. u ∷ []) c ∙ sym q.2, cc)
element_prefix_free a b x y (inl p) (inr q) e =
    let h : p.0 ≡ 76 = ap (λ t. get_or (t ++ x) 0 0) (sym p.2) ∙ ap (λ t. get_or t 0 0) e ∙ ap (λ t. get_or (t ++ y) 0 0) q.2 in
    absurd (primitive_not_class p.0 p.1 h)
element_prefix_free a b x y (inr p) (inl q) e =
    let h : q.0 ≡ 76 = ap (λ t. get_or (t ++ y) 0 0) (sym q.2) ∙ ap (λ t. get_or t 0 0) (sym e) ∙ ap (λ t. get_or (t ++ x) 0 0) p.2 in
    absurd (primitive_not_class q.0 q.1 h)
element_prefix_free a b x y (inr p) (inr q) e = class_prefix_free a b x y p q e

depth_same : (m n : ℕ) (s t : List ℕ) → get_or s 0 0 ≢ 91 → get_or t 0 0 ≢ 91 → replicate m 91 ++ s ≡ replicate n 91 ++ t → (m ≡ n) × (s ≡ t)
depth_same zero zero s t p q e = (refl, e)
depth_same zero (suc n) s t p q e = absurd (p (ap (λ l. get_or l 0 0) e))
depth_same (suc m) zero s t p q e = absurd (q (ap (λ l. get_or l 0 0) (sym e)))
depth_same (suc m) (suc n) s t p q e =
    let h : replicate m 91 ++ s ≡ replicate n 91 ++ t = cc in
    let r = depth_same m n s t p q h in
    (ap suc r.0, r.1)

pub field_prefix_free : IsPrefixFree IsFieldType
field_prefix_free a b x y (m, s, i, p, d) (n, t, j, q, f) e =
    let h : replicate m 91 ++ (s ++ x) ≡ replicate n 91 ++ (t ++ y) = sym (append_assoc (replicate m 91) s x) ∙ ap (λ l. l ++ x) (sym d) ∙ e ∙ ap (λ l. l ++ y) f ∙ append_assoc (replicate n 91) t y in
    let r = depth_same m n (s ++ x) (t ++ y) (element_not_open s x p) (element_not_open t y q) h in
    let u = element_prefix_free s t x y p q r.1 in
    let v = r.0 in let w = u.0 in
    (d ∙ ap (λ k. replicate k 91 ++ s) v ∙ ap (λ l. replicate n 91 ++ l) w ∙ sym f, u.1)

field_not_void : (units rest : List ℕ) → IsFieldType units → get_or (units ++ rest) 0 0 ≡ 86 → ⊥
field_not_void units rest (zero, el, small, p, d) e = (head_not _ (head_of el rest p)).1 (ap (λ l. get_or (l ++ rest) 0 0) (sym d) ∙ e)
field_not_void units rest (suc n, el, small, p, d) e = let h : ◌≡◌ {A = ℕ} 91 86 = ap (λ l. get_or (l ++ rest) 0 0) (sym d) ∙ e in absurd (omega arith)

pub descriptor_prefix_free : IsPrefixFree IsDescriptor
descriptor_prefix_free a b x y (inl p) (inl q) e = let h : 86 ∷ x ≡ 86 ∷ y = ap (λ t. t ++ x) (sym p) ∙ e ∙ ap (λ t. t ++ y) q in (p ∙ sym q, cc)
descriptor_prefix_free a b x y (inl p) (inr q) e = absurd (field_not_void b y q (ap (λ t. get_or t 0 0) (sym e) ∙ ap (λ t. get_or (t ++ x) 0 0) p))
descriptor_prefix_free a b x y (inr p) (inl q) e = absurd (field_not_void a x p (ap (λ t. get_or t 0 0) e ∙ ap (λ t. get_or (t ++ y) 0 0) q))
descriptor_prefix_free a b x y (inr p) (inr q) e = field_prefix_free a b x y p q e
