-- The lowest limit that bodies break.
use Rattle.std.proofs.Common.{◌≡◌, Bool, true, false, ℕ, zero, suc, ◌<◌, ◌≤◌, ◌⊎◌, inl, inr, ⊎_elim, List, [], ◌∷◌, ◌++◌, length, min, refl, sym, ap, subst, arith, Option, Some, None}
use Rattle.std.proofs.lemmas.Bool.{cases_lt, leb-true, leb-false}
use Rattle.std.proofs.lemmas.Option.{slice_get_within}
use Rattle.std.specs.Prelude.{nat_le, if◌then◌else◌}
use Rattle.std.specs.List.{AllByRecursion, slice_get}
use Rattle.dex_base.specs.declared.fault.Fault.{Fault}
use Rattle.code_write.specs.Fits.{CodeBreaksLimit, FitsCode, IsUnfit}
use Rattle.code_write.proofs.BreakLaws.{fits_clear}
use Rattle.program_types.specs.Content.{Name, Code, Class, Program}
use Rattle.file_limits.specs.Limits.{SomeBreaks, ClassBreaksLimit, IsFirstToBreak, codes_of}
use Rattle.file_limits.specs.inner.Lowest.{IsLowestBroken, IsLowestOf, lower, earlier}
use Rattle.dex_base.proofs.ListFacts.{get_last, slice_split, all_append, slice_left}

-- ---- one body

one_there : {V : Type 0} (v w : V) (i : ℕ) → slice_get (v ∷ []) i ≡ Some w → v ≡ w
one_there v w zero e = cc
one_there v w (suc i) e = absurd (cc e)

pub one_fits : (N : ℕ → Name → Type 0) (c : Code) → FitsCode N c → IsLowestBroken N (c ∷ []) None
one_fits N c f = record {
  none = (f, tt);
  some = tt;
  least = λ m s. absurd (fits_clear N c m f (subst (λ (d : Code). CodeBreaksLimit N d m) (sym (one_there c s.code s.index s.there)) s.breaks));
}

pub one_breaks : (N : ℕ → Name → Type 0) (c : Code) (f : Fault) → IsUnfit N c f → IsLowestBroken N (c ∷ []) (Some f.code)
one_breaks N c f h = record {
  none = tt;
  some = record { index = 0; code = c; there = refl; breaks = h.breaks };
  least = λ m s. (f.code, refl, h.lowest m (subst (λ (d : Code). CodeBreaksLimit N d m) (sym (one_there c s.code s.index s.there)) s.breaks));
}

-- ---- bodies, one after the other

pub no_body : (N : ℕ → Name → Type 0) → IsLowestBroken N [] None
no_body N = record { none = tt; some = tt; least = λ m s. absurd (cc s.there) }

front_breaks : (N : ℕ → Name → Type 0) (m : ℕ) (cs ds : List Code) → SomeBreaks N m cs → SomeBreaks N m (cs ++ ds)
front_breaks N m cs ds s = record { index = s.index; code = s.code; there = at cs s.index s.there; breaks = s.breaks }
  where
    at : (cs : List Code) (i : ℕ) → slice_get cs i ≡ Some s.code → slice_get (cs ++ ds) i ≡ Some s.code
    at [] i e = absurd (cc e)
    at (c ∷ cs) zero e = e
    at (c ∷ cs) (suc i) e = at cs i e

back_breaks : (N : ℕ → Name → Type 0) (m : ℕ) (cs ds : List Code) → SomeBreaks N m ds → SomeBreaks N m (cs ++ ds)
back_breaks N m [] ds s = s
back_breaks N m (c ∷ cs) ds s = let r = back_breaks N m cs ds s in record { index = suc r.index; code = r.code; there = r.there; breaks = r.breaks }

split_breaks : (N : ℕ → Name → Type 0) (m : ℕ) (cs ds : List Code) → SomeBreaks N m (cs ++ ds) → SomeBreaks N m cs ⊎ SomeBreaks N m ds
split_breaks N m cs ds s = at cs s.index s.there
  where
    at : (cs : List Code) (i : ℕ) → slice_get (cs ++ ds) i ≡ Some s.code → SomeBreaks N m cs ⊎ SomeBreaks N m ds
    at [] i e = inr (record { index = i; code = s.code; there = e; breaks = s.breaks })
    at (c ∷ cs) zero e = inl (record { index = 0; code = s.code; there = e; breaks = s.breaks })
    at (c ∷ cs) (suc i) e = elim (at cs i e) [ inl r ↦ inl (record { index = suc r.index; code = r.code; there = r.there; breaks = r.breaks }) | inr r ↦ inr r ]

pub both_least : (N : ℕ → Name → Type 0) (cs ds : List Code) (a b : Option ℕ) → IsLowestBroken N cs a → IsLowestBroken N ds b → IsLowestBroken N (cs ++ ds) (lower a b)
both_least N cs ds None None x y = record {
  none = all_append (FitsCode N) cs ds x.none y.none;
  some = tt;
  least = λ m s. elim (split_breaks N m cs ds s) [ inl l ↦ x.least m l | inr r ↦ y.least m r ];
}
both_least N cs ds None (Some n) x y = record {
  none = tt;
  some = back_breaks N n cs ds y.some;
  least = λ m s. elim (split_breaks N m cs ds s) [ inl l ↦ absurd (cc (x.least m l).1) | inr r ↦ y.least m r ];
}
both_least N cs ds (Some k) None x y = record {
  none = tt;
  some = front_breaks N k cs ds x.some;
  least = λ m s. elim (split_breaks N m cs ds s) [ inl l ↦ x.least m l | inr r ↦ absurd (cc (y.least m r).1) ];
}
both_least N cs ds (Some k) (Some n) x y = record {
  none = tt;
  some = ⊎_elim (λ (lt : k < n). let e : min k n ≡ k = omega (arith, lt) in subst (λ (m : ℕ). SomeBreaks N m (cs ++ ds)) (sym e) (front_breaks N k cs ds x.some))
      (λ (le : n ≤ k). let e : min k n ≡ n = omega (arith, le) in subst (λ (m : ℕ). SomeBreaks N m (cs ++ ds)) (sym e) (back_breaks N n cs ds y.some)) (cases_lt k n);
  least = λ m s. elim (split_breaks N m cs ds s) [
    | inl l ↦ (let r = x.least m l in let e : k ≡ r.0 = cc (r.1) in let f = r.2 in (min k n, refl, omega (arith, e, f)))
    | inr l ↦ (let r = y.least m l in let e : n ≡ r.0 = cc (r.1) in let f = r.2 in (min k n, refl, omega (arith, e, f)))
  ];
}

-- ---- classes, one after the other

module _ (N : ℕ → Name → Type 0) (p : Program) (c : Class) where
  split_class : (m i : ℕ) → ClassBreaksLimit N m (p ++ c ∷ []) i → ClassBreaksLimit N m p i ⊎ ((i ≡ length p) × SomeBreaks N m (codes_of c))
  split_class m i h = elim (slice_split p c h.class i h.there) [
    | inl e ↦ inl (record { class = h.class; there = e; body = h.body })
    | inr e ↦ inr (e.0, subst (λ (d : Class). SomeBreaks N m (codes_of d)) (sym e.1) h.body)
  ]

  lift_class : (m i : ℕ) → ClassBreaksLimit N m p i → ClassBreaksLimit N m (p ++ c ∷ []) i
  lift_class m i h = record { class = h.class; there = slice_left p (c ∷ []) i h.class h.there; body = h.body }

  last_class : (m : ℕ) → SomeBreaks N m (codes_of c) → ClassBreaksLimit N m (p ++ c ∷ []) (length p)
  last_class m s = record { class = c; there = get_last p c; body = s }

  within : (m i : ℕ) → ClassBreaksLimit N m p i → i < length p
  within m i h = slice_get_within p i h.class h.there

  -- a first class stays one
  stays : (m i : ℕ) → IsFirstToBreak N m p i → IsFirstToBreak N m (p ++ c ∷ []) i
  stays m i f = record {
    here = lift_class m i f.here;
    first = λ j h. elim (split_class m j h) [ inl x ↦ f.first j x | inr x ↦ (let e = x.0 in let lt = within m i f.here in omega (arith, e, lt)) ];
  }

  fits_more : (Option Fault) → ((i : ℕ) (d : Class) → slice_get p i ≡ Some d → AllByRecursion (FitsCode N) (codes_of d)) → AllByRecursion (FitsCode N) (codes_of c)
      → (i : ℕ) (d : Class) → slice_get (p ++ c ∷ []) i ≡ Some d → AllByRecursion (FitsCode N) (codes_of d)
  fits_more _ f g i d e = elim (slice_split p c d i e) [ inl h ↦ f i d h | inr h ↦ subst (λ (x : Class). AllByRecursion (FitsCode N) (codes_of x)) h.1 g ]

  pub class_more : (best : Option Fault) (number : Option ℕ) → IsLowestOf N p best → IsLowestBroken N (codes_of c) number → IsLowestOf N (p ++ c ∷ []) (earlier best number (length p))
  class_more None None x y = record {
    none = fits_more None x.none y.none;
    some = tt;
    least = λ m i h. elim (split_class m i h) [ inl l ↦ x.least m i l | inr r ↦ absurd (cc (y.least m r.1).1) ];
  }
  class_more (Some f) None x y = record {
    none = tt;
    some = stays f.code f.place x.some;
    least = λ m i h. elim (split_class m i h) [ inl l ↦ x.least m i l | inr r ↦ absurd (cc (y.least m r.1).1) ];
  }
  class_more None (Some n) x y = record {
    none = tt;
    some = record {
      here = last_class n y.some;
      first = λ j h. elim (split_class n j h) [ inl l ↦ absurd (cc (x.least n j l).1) | inr r ↦ (let e = r.0 in omega (arith, e)) ];
    };
    least = λ m i h. elim (split_class m i h) [
      | inl l ↦ absurd (cc (x.least m i l).1)
      | inr r ↦ (let q = y.least m r.1 in let e : n ≡ q.0 = cc (q.1) in let f = q.2 in (record { code = n; place = length p }, refl, omega (arith, e, f)))
    ];
  }
  class_more (Some f) (Some n) x y = elim (nat_le f.code n) as (λ (t : Bool). nat_le f.code n ≡ t → IsLowestOf N (p ++ c ∷ []) (if t then Some f else Some (record { code = n; place = length p }))) [
    | true ↦ λ e. let le : f.code ≤ n = leb-true f.code n e in record {
      none = tt;
      some = stays f.code f.place x.some;
      least = λ m i h. elim (split_class m i h) [
        | inl l ↦ x.least m i l
        | inr r ↦ (let q = y.least m r.1 in let s : n ≡ q.0 = cc (q.1) in let g = q.2 in (f, refl, omega (arith, s, g, le)))
      ];
    }
    | false ↦ λ e. let lt : n < f.code = leb-false f.code n e in record {
      none = tt;
      some = record {
        here = last_class n y.some;
        first = λ j h. elim (split_class n j h) [
          | inl l ↦ (let q = x.least n j l in let s : f ≡ q.0 = cc (q.1) in let g = q.2 in let k = ap (λ (z : Fault). z.code) s in absurd (omega (arith, k, g, lt)))
          | inr r ↦ (let z = r.0 in omega (arith, z))
        ];
      };
      least = λ m i h. elim (split_class m i h) [
        | inl l ↦ (let q = x.least m i l in let s : f ≡ q.0 = cc (q.1) in let g = q.2 in let k = ap (λ (z : Fault). z.code) s in (record { code = n; place = length p }, refl, omega (arith, k, g, lt)))
        | inr r ↦ (let q = y.least m r.1 in let s : n ≡ q.0 = cc (q.1) in let g = q.2 in (record { code = n; place = length p }, refl, omega (arith, s, g)))
      ];
    }
  ] refl

pub no_class : (N : ℕ → Name → Type 0) → IsLowestOf N [] None
no_class N = record { none = λ i c e. absurd (cc e); some = tt; least = λ m i h. absurd (cc h.there) }
