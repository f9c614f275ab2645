-- Code points of names as units, and the simple names that they make.
use Rattle.std.proofs.Common.{◌≡◌, ◌≢◌, ℕ, zero, suc, ◌+◌, ◌-◌, ◌/◌, ◌%◌, ◌<◌, ◌≤◌, ◌⊎◌, inl, inr, List, [], ◌∷◌, ◌++◌, length, get_or, take, drop, refl, sym, ap, subst, ◌∙◌, arith}
use Rattle.std.proofs.lemmas.Bool.{cases_lt, cases_order, lt-ltb, le-ltb}
use Rattle.std.proofs.lemmas.List.{length-append, take-append-drop, length-take-le, append-nil, take_all, append_cancel_right, drop_more}
use Rattle.std.specs.List.{flat_map, AllByRecursion}
use Rattle.dex_base.specs.Grammar.{Begins, NoneBegins, IsPrefixUnique, Each}
use Rattle.dex_base.specs.Descriptor.{IsNamePoint, point_units, IsSimpleName, IsMemberName}
use Rattle.dex_base.specs.inner.Names.{SpellsPoint, AreLowPoints, HasPoint, IsRun}
use Rattle.dex_base.proofs.GrammarLaws.{Each-none, Each-more, Each-next, Each-unique}
use Rattle.dex_base.proofs.UnitLaws.{take_one, take_two}

pub units_one : (c : ℕ) → c < 0x10000 → point_units c ≡ c ∷ []
units_one c h = rw (lt-ltb c 0x10000 h) refl

pub units_two : (c : ℕ) → 0x10000 ≤ c → point_units c ≡ (0xd800 + (c - 0x10000) / 1024) ∷ (0xdc00 + (c - 0x10000) % 1024) ∷ []
units_two c h = rw (le-ltb c 0x10000 h) refl

wide_point : (c : ℕ) → 0x10000 ≤ c → c ≤ 0x10ffff → IsNamePoint c
wide_point c p q = grind arith

point_bound : (c : ℕ) → IsNamePoint c → c ≤ 0x10ffff
point_bound c h = grind arith

pub point_found : (units : List ℕ) (c len : ℕ) → HasPoint units c len → Begins SpellsPoint units c len
point_found units c len h = elim h [
  | inl p ↦ record {
    inside = omega arith;
    spelled = (p.0, rw p.2 (take_one units p.3 ∙ ap (λ a. a ∷ []) p.4 ∙ sym (units_one c p.1)));
  }
  | inr p ↦ record {
    inside = omega arith;
    spelled = (wide_point c p.0 p.1, rw p.2 (take_two units p.3 ∙ rw (p.4, p.5) (sym (units_two c p.0))));
  }
]

pub point_some : (units : List ℕ) (c len : ℕ) → HasPoint units c len → 0 < len
point_some units c len h = elim h [ inl p ↦ omega arith | inr p ↦ omega arith ]

-- one low unit more
pub low_more : (units points : List ℕ) (at : ℕ) → at < length units → get_or units at 0 < 128 → IsNamePoint (get_or units at 0)
    → Begins (Each SpellsPoint) units points at → Begins (Each SpellsPoint) units (points ++ get_or units at 0 ∷ []) (at + 1)
low_more units points at lt low name p =
    Each-more SpellsPoint units points (get_or units at 0) at 1 p
    (rw (drop_more units at 0 lt) (point_found (get_or units at 0 ∷ drop (at + 1) units) (get_or units at 0) 1 (inl (name, omega (arith, low), refl, omega arith, refl))))

-- what was seen up to a place, and units from one before it on
pub low_joined : (units : List ℕ) (seen from to : ℕ) → from ≤ seen → AreLowPoints units 0 seen → AreLowPoints units from to → AreLowPoints units 0 to
low_joined units seen from to over front back k low under = elim (cases_lt k seen) [ inl early ↦ front k low early | inr late ↦ back k (omega arith) under ]

pub low_run_points : (units : List ℕ) (n : ℕ) → n ≤ length units → AreLowPoints units 0 n → (points : List ℕ) × Begins (Each SpellsPoint) units points n
low_run_points units zero inside low = ([], Each-none SpellsPoint units [] refl)
low_run_points units (suc n) inside low =
    let before = low_run_points units n (omega arith) (λ k from under. low k from (omega (arith, under))) in
    let here = low n (omega arith) (omega arith) in
    let next : n + 1 ≡ suc n = omega arith in
    (before.0 ++ get_or units n 0 ∷ [], subst (λ m. Begins (Each SpellsPoint) units (before.0 ++ get_or units n 0 ∷ []) m) next (low_more units before.0 n (omega arith) here.0 here.1 before.1))

pub point_front : (c : ℕ) (front rest : List ℕ) → SpellsPoint front c → HasPoint (front ++ rest) c (length front)
point_front c front rest s = elim (cases_lt c 0x10000) [
  | inl l ↦ let e = s.1 ∙ units_one c l in rw e (inl (s.0, l, refl, omega arith, refl))
  | inr l ↦ let e = s.1 ∙ units_two c l in let b = point_bound c s.0 in rw e (inr (l, b, refl, omega arith, refl, refl))
]

pub point_none : (units : List ℕ) → ((c len : ℕ) → HasPoint units c len → ⊥) → NoneBegins SpellsPoint units
point_none units none front rest c e s = none c (length front) (rw e (point_front c front rest s))

not_high : (c x : ℕ) → IsNamePoint c → x ≤ 0xfffff → c ≡ 0xd800 + x / 1024 → ⊥
not_high c x h l e = let b : x / 1024 ≤ 1023 = omega arith in grind arith

same_point : (units : List ℕ) (c d m n : ℕ) → HasPoint units c m → HasPoint units d n → c ≡ d
same_point units c d m n h k = elim h [
  | inl p ↦ elim k [ inl q ↦ omega arith | inr q ↦ absurd (not_high c (d - 0x10000) p.0 (omega arith) (sym p.4 ∙ q.4)) ]
  | inr p ↦ elim k [ inl q ↦ absurd (not_high d (c - 0x10000) q.0 (omega arith) (sym q.4 ∙ p.4)) | inr q ↦ omega arith ]
]

pub point_unique : IsPrefixUnique SpellsPoint
point_unique a b x y c d p q e =
    let s = same_point (a ++ x) c d (length a) (length b) (point_front c a x p) (rw e (point_front d b y q)) in
    (p.1 ∙ ap point_units s ∙ sym q.1, s)

-- ---- what is no code point of a name

abbrev pub IsStop : ℕ → Type 0
IsStop c = (c ≡ 47) ⊎ (c ≡ 59) ⊎ (c ≡ 60) ⊎ (c ≡ 62) ⊎ (c ≡ 91)

stop_not_point : (c : ℕ) → IsStop c → IsNamePoint c → ⊥
stop_not_point c s h = grind arith

stop_low : (c : ℕ) → IsStop c → c < 128
stop_low c s = grind arith

pub none_at_stop : (c : ℕ) (rest : List ℕ) → IsStop c → NoneBegins SpellsPoint (c ∷ rest)
none_at_stop c rest s = point_none (c ∷ rest) (λ d len h. elim h [ inl p ↦ stop_not_point c s (subst IsNamePoint (sym p.4) p.0) | inr p ↦ let l = stop_low c s in absurd (omega arith) ])

pub none_at_end : NoneBegins SpellsPoint []
none_at_end = point_none [] (λ d len h. elim h [ inl p ↦ absurd (omega arith) | inr p ↦ absurd (omega arith) ])

-- ---- points one after the other

pub each_is : (points units : List ℕ) → Each SpellsPoint units points → AllByRecursion IsNamePoint points × (units ≡ flat_map point_units points)
each_is [] units e = (tt, e)
each_is (c ∷ points) units e =
    let r = each_is points e.1 e.4 in
    ((e.3.0, r.0), e.2 ∙ ap (λ l. l ++ e.1) e.3.1 ∙ ap (λ l. point_units c ++ l) r.1)

pub each_from : (points : List ℕ) → AllByRecursion IsNamePoint points → Each SpellsPoint (flat_map point_units points) points
each_from [] h = refl
each_from (c ∷ points) h = (point_units c, flat_map point_units points, refl, (h.0, refl), each_from points h.1)

-- two fronts after which no code point stands are one
pub run_is : (ps qs : List ℕ) (a b x y : List ℕ) → Each SpellsPoint a ps → Each SpellsPoint b qs → NoneBegins SpellsPoint x → NoneBegins SpellsPoint y → a ++ x ≡ b ++ y → (a ≡ b) × (ps ≡ qs)
run_is ps qs a b x y p q nx ny e = elim (cases_order (length ps) (length qs)) [
  | inl same ↦ Each-unique SpellsPoint point_unique ps qs a b x y same p q e
  | inr (inl less) ↦ let n = Each-next SpellsPoint point_unique ps qs a b x y less p q e in absurd (nx n.0 n.1 n.2 n.3 n.4)
  | inr (inr more) ↦ let n = Each-next SpellsPoint point_unique qs ps b a y x more q p (sym e) in absurd (ny n.0 n.1 n.2 n.3 n.4)
]

-- ---- the run

pub run_simple : (units : List ℕ) (len : ℕ) → IsRun units len → 0 < len → IsSimpleName (take len units)
run_simple units len r some =
    let e = each_is r.points (take len units) r.read.spelled in
    record { points = r.points; some = λ none. absurd (no_points r.points r.read.spelled none); allowed = e.0; spelled = e.1 }
  where
    no_points : (ps : List ℕ) → Each SpellsPoint (take len units) ps → ps ≡ [] → ⊥
    no_points [] e none = let n = length-take-le len units r.read.inside in omega (arith, ap length e)
    no_points (p ∷ ps) e none = cc

-- a simple name after which no code point stands is the run
pub run_whole : (units name tail : List ℕ) (len : ℕ) → IsRun units len → IsSimpleName name → NoneBegins SpellsPoint tail → units ≡ name ++ tail → (take len units ≡ name) × (0 < len)
run_whole units name tail len r s none e =
    let q : Each SpellsPoint name s.points = rw s.spelled (each_from s.points s.allowed) in
    let one = run_is r.points s.points (take len units) name (drop len units) tail r.read.spelled q r.ends none (take-append-drop len units ∙ e) in
    (one.0, has_points len one.0)
  where
    long : (ps bytes : List ℕ) → ps ≢ [] → Each SpellsPoint bytes ps → 0 < length bytes
    long [] bytes n f = absurd (n refl)
    long (p ∷ ps) bytes n f = omega (arith, ap length f.2, length-append f.0 f.1, point_some (f.0 ++ []) p (length f.0) (point_front p f.0 [] f.3))

    has_points : (len : ℕ) → take len units ≡ name → 0 < len
    has_points zero g = absurd (omega (arith, ap length g, long s.points name s.some (rw s.spelled (each_from s.points s.allowed))))
    has_points (suc len) g = omega arith

-- ---- simple names

simple_spelled : (units : List ℕ) (s : IsSimpleName units) → Each SpellsPoint units s.points
simple_spelled units s = rw s.spelled (each_from s.points s.allowed)

-- no simple name begins with a stop
pub simple_head : (c : ℕ) (rest : List ℕ) → IsStop c → IsSimpleName (c ∷ rest) → ⊥
simple_head c rest stop s = go s.points s.some (simple_spelled (c ∷ rest) s)
  where
    go : (ps : List ℕ) → ps ≢ [] → Each SpellsPoint (c ∷ rest) ps → ⊥
    go [] n e = n refl
    go (p ∷ ps) n e = none_at_stop c rest stop e.0 e.1 p e.2 e.3

pub run_all : (units : List ℕ) (len : ℕ) → IsRun units len → 0 < length units → len ≡ length units → IsSimpleName units
run_all units len r some e = subst IsSimpleName (take_all len units (omega arith)) (run_simple units len r (omega arith))

pub run_is_all : (units : List ℕ) (len : ℕ) → IsRun units len → IsSimpleName units → len ≡ length units
run_is_all units len r s =
    let w = run_whole units units [] len r s none_at_end (sym (append-nil units)) in
    omega (arith, ap length w.0, length-take-le len units r.read.inside)

pub simple_some : (units : List ℕ) → IsSimpleName units → 0 < length units
simple_some [] s = absurd (go s.points s.some (simple_spelled [] s))
  where
    go : (ps : List ℕ) → ps ≢ [] → Each SpellsPoint [] ps → ⊥
    go [] n e = n refl
    go (p ∷ ps) n e = none_at_end e.0 e.1 p e.2 e.3
simple_some (u ∷ units) s = omega arith

pub same_inside : (units : List ℕ) (a b : ℕ) (x y : List ℕ) → units ≡ a ∷ x ++ b ∷ [] → units ≡ a ∷ y ++ b ∷ [] → x ≡ y
same_inside units a b x y p q = let t : x ++ b ∷ [] ≡ y ++ b ∷ [] = cc in append_cancel_right x y (b ∷ []) t

pub member_inside : (units inner : List ℕ) → units ≡ 60 ∷ inner ++ 62 ∷ [] → IsMemberName units → IsSimpleName inner
member_inside units inner e m = elim m [
  | inl s ↦ absurd (simple_head 60 (inner ++ 62 ∷ []) (inr (inr (inl refl))) (subst IsSimpleName e s))
  | inr t ↦ subst IsSimpleName (same_inside units 60 62 t.0 inner t.2 e) t.1
]
