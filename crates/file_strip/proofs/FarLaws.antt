-- The first class of which a handler is too far.
use Rattle.std.proofs.Common.{◌≡◌, ℕ, zero, suc, ◌+◌, ◌≤◌, List, [], ◌∷◌, ◌++◌, map, refl, sym, subst, arith, slice_get, Some, None, Option, inl, inr}
use Rattle.std.specs.Prelude.{◌⊎◌}
use Rattle.std.specs.Option.{option_to_list}
use Rattle.std.proofs.lemmas.List.{map-append}
use Rattle.code_write.specs.Fits.{CodeBreaksLimit}
use Rattle.file_limits.specs.Limits.{ClassBreaksLimit, IsFirstToBreak, SomeBreaks, codes_in, codes_of}
use Rattle.file_limits.specs.Wide.{bodies_in, bodies_of}
use Rattle.program_types.specs.Content.{Class, Code, Method, Program}
use Rattle.tables_names.specs.Closure.{Five, NameRanks}
use Rattle.file_strip.specs.inner.Bodies.{AreNear, IsFar, IsFirstFar, numbered}
use Rattle.dex_base.proofs.ListFacts.{slice_left, some_inj}

-- ---- lists of codes

abbrev Breaks : Five → List Code → Type 0
Breaks s cs = SomeBreaks (NameRanks s) 89 cs

front : (s : Five) (cs ds : List Code) → Breaks s cs → Breaks s (cs ++ ds)
front s cs ds x = record { index = x.index; code = x.code; there = slice_left cs ds x.index x.code x.there; breaks = x.breaks }

after : (s : Five) (ds cs : List Code) → Breaks s cs → Breaks s (ds ++ cs)
after s [] cs x = x
after s (d ∷ ds) cs x = let r = after s ds cs x in record { index = suc r.index; code = r.code; there = r.there; breaks = r.breaks }

none_there : (cs : List Code) (i : ℕ) (c : Code) → cs ≡ [] → slice_get cs i ≡ Some c → ⊥
none_there [] i c e at = absurd cc
none_there (d ∷ cs) i c e at = absurd cc

split_one : (s : Five) (c : Code) (cs : List Code) (i : ℕ) (d : Code) → slice_get (c ∷ cs) i ≡ Some d → CodeBreaksLimit (NameRanks s) d 89 → CodeBreaksLimit (NameRanks s) c 89 ⊎ Breaks s cs
split_one s c cs zero d at far = inl (subst (λ (e : Code). CodeBreaksLimit (NameRanks s) e 89) (sym (some_inj c d at)) far)
split_one s c cs (suc i) d at far = inr (record { index = i; code = d; there = at; breaks = far })

neither : (s : Five) (cs ds : List Code) → (¬ Breaks s cs) → (¬ Breaks s ds) → ¬ Breaks s (cs ++ ds)
neither s [] ds a b x = b x
neither s (c ∷ cs) ds a b x = elim (split_one s c (cs ++ ds) x.index x.code x.there x.breaks) [
  | inl far ↦ a (record { index = 0; code = c; there = refl; breaks = far })
  | inr rest ↦ neither s cs ds (λ y. a (record { index = suc y.index; code = y.code; there = y.there; breaks = y.breaks })) b rest
]

not_one : (s : Five) (o : Option Code) → (¬ IsFar s o) → ¬ Breaks s (option_to_list o)
not_one s None a x = absurd (none_there [] x.index x.code refl x.there)
not_one s (Some c) a x = elim (split_one s c [] x.index x.code x.there x.breaks) [
  | inl far ↦ a (record { code = c; is = refl; breaks = far })
  | inr rest ↦ absurd (none_there [] rest.index rest.code refl rest.there)
]

one : (s : Five) (o : Option Code) → IsFar s o → Breaks s (option_to_list o)
one s o f = subst (λ (q : Option Code). Breaks s (option_to_list q)) (sym f.is) (record { index = 0; code = f.code; there = refl; breaks = f.breaks })

-- ---- the methods of a class

none_in : (s : Five) (n : ℕ) (ms : List Method) → AreNear s (map (λ v. (n, v)) (bodies_in ms)) → ¬ Breaks s (codes_in ms)
none_in s n [] near x = absurd (none_there [] x.index x.code refl x.there)
none_in s n (m ∷ ms) near x = neither s (option_to_list m.code) (codes_in ms) (not_one s m.code near.0) (none_in s n ms near.1) x

far_in : (s : Five) (n class : ℕ) (ms : List Method) → IsFirstFar s (map (λ v. (n, v)) (bodies_in ms)) class → (n ≡ class) × Breaks s (codes_in ms)
far_in s n class [] f = absurd f
far_in s n class (m ∷ ms) f = elim f [
  | inl here ↦ (here.0, front s (option_to_list m.code) (codes_in ms) (one s m.code here.1))
  | inr rest ↦ let r = far_in s n class ms rest.1 in (r.0, after s (option_to_list m.code) (codes_in ms) r.1)
]

far_append : (s : Five) (xs ys : List (ℕ × Option Code)) (class : ℕ) → IsFirstFar s (xs ++ ys) class → IsFirstFar s xs class ⊎ (AreNear s xs × IsFirstFar s ys class)
far_append s [] ys class f = inr (tt, f)
far_append s (x ∷ xs) ys class f = elim f [
  | inl here ↦ inl (inl here)
  | inr rest ↦ elim (far_append s xs ys class rest.1) [
    | inl more ↦ inl (inr (rest.0, more))
    | inr later ↦ inr ((rest.0, later.0), later.1)
  ]
]

near_left : (s : Five) (xs ys : List (ℕ × Option Code)) → AreNear s (xs ++ ys) → AreNear s xs × AreNear s ys
near_left s [] ys a = (tt, a)
near_left s (x ∷ xs) ys a = let r = near_left s xs ys a.1 in ((a.0, r.0), r.1)

-- the bodies of a class with its number
pub pairs : (n : ℕ) (c : Class) → map {B = ℕ × Option Code} (λ v. (n, v)) (bodies_of c) ≡ map {B = ℕ × Option Code} (λ v. (n, v)) (bodies_in c.directs) ++ map {B = ℕ × Option Code} (λ v. (n, v)) (bodies_in c.virtuals)
pairs n c = map-append (λ (v : Option Code). (n, v)) (bodies_in c.directs) (bodies_in c.virtuals)

none_of : (s : Five) (n : ℕ) (c : Class) → AreNear s (map (λ v. (n, v)) (bodies_of c)) → ¬ Breaks s (codes_of c)
none_of s n c near =
    let b = near_left s (map (λ v. (n, v)) (bodies_in c.directs)) (map (λ v. (n, v)) (bodies_in c.virtuals)) (subst (AreNear s) (pairs n c) near) in
    neither s (codes_in c.directs) (codes_in c.virtuals) (none_in s n c.directs b.0) (none_in s n c.virtuals b.1)

far_of : (s : Five) (n class : ℕ) (c : Class) → IsFirstFar s (map (λ v. (n, v)) (bodies_of c)) class → (n ≡ class) × Breaks s (codes_of c)
far_of s n class c f =
    elim (far_append s (map (λ v. (n, v)) (bodies_in c.directs)) (map (λ v. (n, v)) (bodies_in c.virtuals)) class (subst (λ (xs : List (ℕ × Option Code)). IsFirstFar s xs class) (pairs n c) f)) [
      | inl a ↦ let r = far_in s n class c.directs a in (r.0, front s (codes_in c.directs) (codes_in c.virtuals) r.1)
      | inr a ↦ let r = far_in s n class c.virtuals a.1 in (r.0, after s (codes_in c.directs) (codes_in c.virtuals) r.1)
    ]

-- ---- classes

none_first : (s : Five) (n : ℕ) (c : Class) (p : Program) → AreNear s (map (λ v. (n, v)) (bodies_of c)) → ¬ ClassBreaksLimit (NameRanks s) 89 (c ∷ p) 0
none_first s n c p near x = none_of s n c near (subst (λ (d : Class). Breaks s (codes_of d)) (sym (some_inj c x.class x.there)) x.body)

below : (s : Five) (c : Class) (p : Program) (j : ℕ) → ClassBreaksLimit (NameRanks s) 89 (c ∷ p) (suc j) → ClassBreaksLimit (NameRanks s) 89 p j
below s c p j x = record { class = x.class; there = x.there; body = x.body }

above : (s : Five) (c : Class) (p : Program) (j : ℕ) → ClassBreaksLimit (NameRanks s) 89 p j → ClassBreaksLimit (NameRanks s) 89 (c ∷ p) (suc j)
above s c p j x = record { class = x.class; there = x.there; body = x.body }

later : (s : Five) (n : ℕ) (c : Class) (p : Program) (i : ℕ) → AreNear s (map (λ v. (n, v)) (bodies_of c)) → ((j : ℕ) → ClassBreaksLimit (NameRanks s) 89 p j → i ≤ j) → (j : ℕ) → ClassBreaksLimit (NameRanks s) 89 (c ∷ p) j → suc i ≤ j
later s n c p i near low zero x = absurd (none_first s n c p near x)
later s n c p i near low (suc j) x = let l = low j (below s c p j x) in omega (arith, l)

first_from : (s : Five) (n class : ℕ) (p : Program) → IsFirstFar s (numbered n p) class → (i : ℕ) × (class ≡ n + i) × IsFirstToBreak (NameRanks s) 89 p i
first_from s n class [] f = absurd f
first_from s n class (c ∷ p) f = elim (far_append s (map (λ v. (n, v)) (bodies_of c)) (numbered (n + 1) p) class f) [
  | inl here ↦ let r = far_of s n class c here in let e = r.0 in (0, omega (arith, e), record { here = record { class = c; there = refl; body = r.1 }; first = λ j x. omega arith })
  | inr rest ↦
      let r = first_from s (n + 1) class p rest.1 in
      let e = r.1 in
      (suc r.0, omega (arith, e), record { here = above s c p r.0 r.2.here; first = later s n c p r.0 rest.0 r.2.first })
]

-- the number of the first body that is far is that of the first such class
pub first_class : (s : Five) (p : Program) (class : ℕ) → IsFirstFar s (numbered 0 p) class → IsFirstToBreak (NameRanks s) 89 p class
first_class s p class f =
    let r = first_from s 0 class p f in
    let e = r.1 in
    let same : r.0 ≡ class = omega (arith, e) in
    subst (IsFirstToBreak (NameRanks s) 89 p) same r.2

-- where none is far no class is such
pub none_far : (s : Five) (n : ℕ) (p : Program) → AreNear s (numbered n p) → (i : ℕ) → ¬ ClassBreaksLimit (NameRanks s) 89 p i
none_far s n [] near i x = absurd (no_class x.class i x.there)
  where
    no_class : (c : Class) (i : ℕ) → slice_get [] i ≡ Some c → ⊥
    no_class c i at = absurd cc
none_far s n (c ∷ p) near zero x = none_first s n c p (near_left s (map (λ v. (n, v)) (bodies_of c)) (numbered (n + 1) p) near).0 x
none_far s n (c ∷ p) near (suc i) x = none_far s (n + 1) p (near_left s (map (λ v. (n, v)) (bodies_of c)) (numbered (n + 1) p) near).1 i (below s c p i x)
