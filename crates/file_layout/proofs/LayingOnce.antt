-- The same values are laid in one way.
use Rattle.std.proofs.Common.{◌≡◌, ℕ, suc, ◌+◌, ◌<◌, ◌≤◌, Bool, true, false, eqb, Some, List, [], ◌∷◌, ◌++◌, length, map, refl, sym, ap, ◌∙◌, subst, arith, append_assoc, append-nil, inl, inr}
use Rattle.std.proofs.lemmas.List.{append_cancel_left}
use Rattle.std.specs.List.{fold, list_any, slice_get, AllByRecursion, AllZip}
use Rattle.std.specs.Prelude.{MatchBool, ◌||◌}
use Rattle.dex_base.specs.Fields.{AreBytes}
use Rattle.dex_container.specs.Where.{slice}
use Rattle.file_layout.specs.inner.Once.{HasOneSpelling, HaveOneSpelling, part_of, AreSame}
use Rattle.file_layout.specs.Tiles.{gap, Tiles, Done, Item, add_place, distinct_places, Among}
use Rattle.file_layout.specs.inner.Tiles.{AreShared, Refers, Lays}
use Rattle.file_layout.proofs.TileLaws.{Tiles-le, Tiles-among, refers_some, zip_there, add_place-fresh, add_place-known}
use Rattle.file_layout.proofs.PartLaws.{slice_are, length_slice, part_item, part_none}
use Rattle.dex_base.proofs.ListFacts.{all_append}

-- ---- places that are seen

-- P holds of a place that is seen
seen_holds : (P : ℕ → Type 0) (seen : List ℕ) (p : ℕ) → AllByRecursion P seen → list_any (λ q. eqb q p) seen ≡ true → P p
seen_holds P [] p h e = absurd (cc e)
seen_holds P (q ∷ qs) p h e = by_test (eqb q p) refl e (λ g. seen_holds P qs p h.1 g)
  where
    by_test : (t : Bool) → eqb q p ≡ t → (t || list_any (λ x. eqb x p) qs) ≡ true → (list_any (λ x. eqb x p) qs ≡ true → P p) → P p
    by_test true s g more = let same : q ≡ p = grind (arith, s) in subst P same h.0
    by_test false s g more = more g

-- places are added at the end
pub grows : (places seen : List ℕ) → (more : List ℕ) × (fold add_place seen places ≡ seen ++ more)
grows [] seen = ([], sym (append-nil seen))
grows (p ∷ ps) seen = by_test (eqb p 0 || list_any (λ q. eqb q p) seen) refl (λ s. grows ps s)
  where
    by_test : (t : Bool) → (eqb p 0 || list_any (λ q. eqb q p) seen) ≡ t → ((s : List ℕ) → (more : List ℕ) × (fold add_place s ps ≡ s ++ more)) → (more : List ℕ) × (fold add_place (add_place seen p) ps ≡ seen ++ more)
    by_test true e more = let g = more seen in (g.0, ap (λ (s : List ℕ). fold add_place s ps) (rw e refl) ∙ g.1)
    by_test false e more =
        let g = more (seen ++ p ∷ []) in
        (p ∷ g.0, ap (λ (s : List ℕ). fold add_place s ps) (rw e refl) ∙ g.1 ∙ append_assoc seen (p ∷ []) g.0)

-- ---- items

abbrev pub firsts : {V : Type 0} → List (ℕ × V) → List ℕ
firsts {V} items = map (λ (x : ℕ × V). x.0) items

-- at a place one value stands
pub one_there : {V : Type 0} {G : List ℕ → V → Type 0} {align : ℕ} {b : List ℕ} {at end : ℕ} {items : List (ℕ × V)} (p : ℕ) (v w : V)
    → Tiles G align b at end items → Among items p v → Among items p w → v ≡ w
one_there p v w Done a c = absurd a
one_there p v w (Item next some spelled rest) (inl e) (inl f) = sym e.1 ∙ f.1
one_there p v w (Item next some spelled rest) (inl e) (inr f) =
    let s = Tiles-among p w rest f in let l = s.low in let same = e.0 in absurd (omega (arith, l, same, some))
one_there p v w (Item next some spelled rest) (inr e) (inl f) =
    let s = Tiles-among p v rest e in let l = s.low in let same = f.0 in absurd (omega (arith, l, same, some))
one_there p v w (Item next some spelled rest) (inr e) (inr f) = one_there p v w rest e f

-- where no item is left, the end is reached
pub tiles_none : {V : Type 0} {G : List ℕ → V → Type 0} {align : ℕ} {b : List ℕ} {at end : ℕ} {items : List (ℕ × V)} → Tiles G align b at end items → firsts items ≡ [] → (at ≡ end) × (items ≡ [])
tiles_none Done e = (refl, refl)
tiles_none (Item next some spelled rest) e = absurd (cc e)

refers_none : {V : Type 0} (none : V → Bool) (items : List (ℕ × V)) (p : ℕ) (v : V) → none v ≡ true → Refers none items p v → p ≡ 0
refers_none none items p v e r = rw e at r

-- a place that isn't 0 is that of an item
refers_placed : {V : Type 0} (none : V → Bool) (items : List (ℕ × V)) (p : ℕ) (v : V) → 0 < p → Refers none items p v → Among items p v
refers_placed {V = V} none items p v some r =
    elim (none v) as (λ (t : Bool). MatchBool t (p ≡ 0) ((0 < p) × Among items p v) → Among items p v) [
      | true ↦ λ e. absurd (omega (arith, e, some))
      | false ↦ λ e. e.1
    ] r

-- ---- two layings side by side

-- the rest of a list from number n on
abbrev From : {A : Type 0} → List A → List A → ℕ → Type 0
From {A} rest all n = (k : ℕ) (x : A) → slice_get rest k ≡ Some x → slice_get all (n + k) ≡ Some x

from_next : {A : Type 0} (x : A) (rest all : List A) (n : ℕ) → From (x ∷ rest) all n → From rest all (suc n)
from_next x rest all n f k y e = let m : n + suc k ≡ suc n + k = omega arith in subst (λ (i : ℕ). slice_get all i ≡ Some y) m (f (suc k) y e)

from_here : {A : Type 0} (x : A) (rest all : List A) (n : ℕ) → From (x ∷ rest) all n → slice_get all n ≡ Some x
from_here x rest all n f = let m : n + 0 ≡ n = omega arith in subst (λ (i : ℕ). slice_get all i ≡ Some x) m (f 0 x refl)

from_start : {A : Type 0} (all : List A) → From all all 0
from_start all k x e = let m : k ≡ 0 + k = omega arith in subst (λ (i : ℕ). slice_get all i ≡ Some x) m e

abbrev Within : {V : Type 0} → List (ℕ × V) → List (ℕ × V) → Type 0
Within {V} rest all = (p : ℕ) (v : V) → Among rest p v → Among all p v

module _ {V : Type 0} (none : V → Bool) (G : List ℕ → V → Type 0) (align : ℕ)
    (begin end last : ℕ) (b c : List ℕ) (bytes_b : AreBytes b) (bytes_c : AreBytes c) (in_b : end ≤ length b) (in_c : last ≤ length c)
    (vs : List V) (places others : List ℕ) (items more : List (ℕ × V))
    (tiled : Tiles G align b begin end items) (laid : Tiles G align c begin last more)
    (each : AllZip (Refers none items) places vs) (again : AllZip (Refers none more) others vs)
    (shared : AreShared places vs) (alike : AreShared others vs) (once : HaveOneSpelling G vs) where
  -- some use has this place in both
  record Known (p : ℕ) : Type 0 where
    turn : ℕ
    value : V
    is : slice_get vs turn ≡ Some value
    here : slice_get places turn ≡ Some p
    there : slice_get others turn ≡ Some p

  known_first : (n p q : ℕ) (v : V) → 0 < p → Known p → slice_get vs n ≡ Some v → slice_get places n ≡ Some p → slice_get others n ≡ Some q → Among items p v → p ≡ q
  known_first n p q v some k is here there a =
      let u = refers_placed none items p k.value some (zip_there (Refers none items) places vs k.turn p k.value each k.here k.is) in
      let same : k.value ≡ v = one_there p k.value v tiled u a in
      alike k.turn n v p q (k.is ∙ ap (λ (x : V). Some x) same) is k.there there

  known_second : (n p q : ℕ) (v : V) → 0 < q → Known q → slice_get vs n ≡ Some v → slice_get places n ≡ Some p → slice_get others n ≡ Some q → Among more q v → p ≡ q
  known_second n p q v some k is here there a =
      let u = refers_placed none more q k.value some (zip_there (Refers none more) others vs k.turn q k.value again k.there k.is) in
      let same : k.value ≡ v = one_there q k.value v laid u a in
      sym (shared k.turn n v q p (k.is ∙ ap (λ (x : V). Some x) same) is k.here here)

  -- what both have from here on
  record Same (at : ℕ) (ps qs : List ℕ) (xs ys : List (ℕ × V)) : Type 0 where
    places_are : ps ≡ qs
    items_are : xs ≡ ys
    ends : end ≡ last
    bytes : part_of b at end ≡ part_of c at last

  nothing_left : (at : ℕ) (xs ys : List (ℕ × V)) → Tiles G align b at end xs → Tiles G align c at last ys → firsts xs ≡ [] → firsts ys ≡ [] → Same at [] [] xs ys
  nothing_left at xs ys s t e f =
      let m = tiles_none s e in let n = tiles_none t f in
      record {
        places_are = refl;
        items_are = m.1 ∙ sym n.1;
        ends = sym m.0 ∙ n.0;
        bytes = ap (λ (k : ℕ). part_of b at k) (sym m.0) ∙ part_none b at ∙ sym (part_none c at) ∙ ap (λ (k : ℕ). part_of c at k) n.0;
      }

  same_place : (at p q : ℕ) (v w : V) (xs ys : List (ℕ × V)) → Tiles G align b at end ((p, v) ∷ xs) → Tiles G align c at last ((q, w) ∷ ys) → p ≡ q
  same_place at p q v w xs ys (Item next some spelled rest) (Item then any said left) = next.there ∙ sym then.there

  -- one item in both
  item_first : (at : ℕ) (p q : ℕ) (v w : V) (ps qs : List ℕ) (xs ys : List (ℕ × V)) → Tiles G align b at end ((p, v) ∷ xs) → Tiles G align c at last ((q, w) ∷ ys) → v ≡ w → HasOneSpelling G v
      → ((next : ℕ) → Tiles G align b next end xs → Tiles G align c next last ys → Same next ps qs xs ys) → Same at (p ∷ ps) (q ∷ qs) ((p, v) ∷ xs) ((q, w) ∷ ys)
  item_first at p q v w ps qs xs ys (Item {size = m} next some spelled rest) (Item {size = n} then any said left) e one_way go =
      let here = next.there in let there = then.there in
      let place : p ≡ q = here ∙ sym there in
      let le = Tiles-le rest in let ge = Tiles-le left in
      let one : slice b p m ≡ slice c q n = one_way (slice b p m) (slice c q n) (slice_are b p m bytes_b) (slice_are c q n bytes_c) spelled (subst (λ (u : V). G (slice c q n) u) (sym e) said) in
      let sizes : m ≡ n = sym (length_slice b p m (omega (arith, le, in_b))) ∙ ap length one ∙ length_slice c q n (omega (arith, ge, in_c)) in
      let after : q + n ≡ p + m = omega (arith, place, sizes) in
      let r = go (p + m) rest (subst (λ (k : ℕ). Tiles G align c k last ys) after left) in
      record {
        places_are = λ k. place k ∷ r.places_are k;
        items_are = λ k. (place k, e k) ∷ r.items_are k;
        ends = r.ends;
        bytes =
            let clear : slice b at (gap align at) ≡ slice c at (gap align at) = next.clear ∙ sym then.clear in
            let tail : part_of b (p + m) end ≡ part_of c (q + n) last = r.bytes ∙ ap (λ (k : ℕ). part_of c k last) (sym after) in
            part_item b at p m end (gap align at) here le
            ∙ (λ k. clear k ++ (one k ++ tail k))
            ∙ sym (part_item c at q n last (gap align at) there ge);
      }

  some_left : (n : ℕ) (ns : List ℕ) (xs : List (ℕ × V)) → firsts xs ≡ n ∷ ns → (v : V) × (ys : List (ℕ × V)) × (xs ≡ (n, v) ∷ ys) × (firsts ys ≡ ns)
  some_left n ns [] e = absurd (cc e)
  some_left n ns (x ∷ xs) e = let h : x.0 ≡ n = cc in let t : firsts xs ≡ ns = cc in (x.1, xs, (λ k. (h k, x.1) ∷ xs), t)

  -- the places of the items that are left, after a place that is not seen yet
  fresh_left : (seen ps : List ℕ) (p : ℕ) (xs : List (ℕ × V)) → 0 < p → list_any (λ q. eqb q p) seen ≡ false → fold add_place seen (p ∷ ps) ≡ seen ++ firsts xs
      → (v : V) × (ys : List (ℕ × V)) × (xs ≡ (p, v) ∷ ys) × (fold add_place (seen ++ p ∷ []) ps ≡ (seen ++ p ∷ []) ++ firsts ys)
  fresh_left seen ps p xs some new order =
      let f : fold add_place (add_place seen p) ps ≡ fold add_place (seen ++ p ∷ []) ps = ap (λ (s : List ℕ). fold add_place s ps) (add_place-fresh seen p some new) in
      let g = grows ps (seen ++ p ∷ []) in
      let whole : seen ++ firsts xs ≡ seen ++ (p ∷ g.0) = sym order ∙ f ∙ g.1 ∙ append_assoc seen (p ∷ []) g.0 in
      let l = some_left p g.0 xs (append_cancel_left seen (firsts xs) (p ∷ g.0) whole) in
      (l.0, l.1, l.2, g.1 ∙ ap (λ (t : List ℕ). (seen ++ p ∷ []) ++ t) (sym l.3))

  -- one value, where the rest can be gone through
  abbrev Goes : List ℕ → List ℕ → Type 0
  Goes ps qs =
      (next : ℕ) (us ws : List (ℕ × V)) (sight : List ℕ) → Tiles G align b next end us → Tiles G align c next last ws → Within us items → Within ws more
      → fold add_place sight ps ≡ sight ++ firsts us → fold add_place sight qs ≡ sight ++ firsts ws → AllByRecursion Known sight → Same next ps qs us ws

  -- the place of a value that was seen, or 0
  seen_already : (p q : ℕ) (ps qs : List ℕ) (xs ys : List (ℕ × V)) (at : ℕ) (seen : List ℕ) → Tiles G align b at end xs → Tiles G align c at last ys → Within xs items → Within ys more
      → fold add_place seen (p ∷ ps) ≡ seen ++ firsts xs → fold add_place seen (q ∷ qs) ≡ seen ++ firsts ys → AllByRecursion Known seen → Goes ps qs
      → p ≡ q → add_place seen p ≡ seen → Same at (p ∷ ps) (q ∷ qs) xs ys
  seen_already p q ps qs xs ys at seen s t i j o w k go e known =
      let first : fold add_place seen ps ≡ seen ++ firsts xs = ap (λ (l : List ℕ). fold add_place l ps) (sym known) ∙ o in
      let second : fold add_place seen qs ≡ seen ++ firsts ys = ap (λ (l : List ℕ). fold add_place l qs) (sym known ∙ ap (λ (m : ℕ). add_place seen m) e) ∙ w in
      let r = go at xs ys seen s t i j first second k in
      record { places_are = λ m. e m ∷ r.places_are m; items_are = r.items_are; ends = r.ends; bytes = r.bytes }

  -- that of a value that has the next item
  new_item : (v : V) (p q n : ℕ) (ps qs : List ℕ) (u x : V) (us ws : List (ℕ × V)) (at : ℕ) (seen : List ℕ)
      → Tiles G align b at end ((p, u) ∷ us) → Tiles G align c at last ((q, x) ∷ ws) → Within ((p, u) ∷ us) items → Within ((q, x) ∷ ws) more
      → fold add_place (seen ++ p ∷ []) ps ≡ (seen ++ p ∷ []) ++ firsts us → fold add_place (seen ++ q ∷ []) qs ≡ (seen ++ q ∷ []) ++ firsts ws
      → AllByRecursion Known seen → slice_get vs n ≡ Some v → slice_get places n ≡ Some p → slice_get others n ≡ Some q → Goes ps qs
      → Among items p v → Among more q v → Same at (p ∷ ps) (q ∷ qs) ((p, u) ∷ us) ((q, x) ∷ ws)
  new_item v p q n ps qs u x us ws at seen front back here there first second k is first_is second_is go a d =
      let place : p ≡ q = same_place at p q u x us ws front back in
      let uses : u ≡ v = one_there p u v tiled (here p u (inl (refl, refl))) a in
      let takes : x ≡ v = one_there q x v laid (there q x (inl (refl, refl))) d in
      let known : Known p = record { turn = n; value = v; is = is; here = first_is; there = second_is ∙ ap (λ (l : ℕ). Some l) (sym place) } in
      let sights : seen ++ q ∷ [] ≡ seen ++ p ∷ [] = ap (λ (l : ℕ). seen ++ l ∷ []) (sym place) in
      item_first at p q u x ps qs us ws front back (uses ∙ sym takes) (subst (λ (l : V). HasOneSpelling G l) (sym uses) (once n v is))
      (λ next left right. go next us ws (seen ++ p ∷ []) left right (λ l y g. here l y (inr g)) (λ l y g. there l y (inr g)) first
      (subst (λ (l : List ℕ). fold add_place l qs ≡ l ++ firsts ws) sights second) (all_append Known seen (p ∷ []) k (known, tt)))

  new_one : (v : V) (p q n : ℕ) (ps qs : List ℕ) (xs ys : List (ℕ × V)) (at : ℕ) (seen : List ℕ) → Tiles G align b at end xs → Tiles G align c at last ys → Within xs items → Within ys more
      → fold add_place seen (p ∷ ps) ≡ seen ++ firsts xs → fold add_place seen (q ∷ qs) ≡ seen ++ firsts ys
      → AllByRecursion Known seen → slice_get vs n ≡ Some v → slice_get places n ≡ Some p → slice_get others n ≡ Some q → Goes ps qs
      → (0 < p) × Among items p v → (0 < q) × Among more q v → list_any (λ x. eqb x p) seen ≡ false → list_any (λ x. eqb x q) seen ≡ false → Same at (p ∷ ps) (q ∷ qs) xs ys
  new_one v p q n ps qs xs ys at seen s t i j o w k is first_is second_is go a d e m =
      let l = fresh_left seen ps p xs a.0 e o in
      let r = fresh_left seen qs q ys d.0 m w in
      let front = subst (λ (zs : List (ℕ × V)). Tiles G align b at end zs) l.2 s in
      let back = subst (λ (zs : List (ℕ × V)). Tiles G align c at last zs) r.2 t in
      let here = subst (λ (zs : List (ℕ × V)). Within zs items) l.2 i in
      let there = subst (λ (zs : List (ℕ × V)). Within zs more) r.2 j in
      let z = new_item v p q n ps qs l.0 r.0 l.1 r.1 at seen front back here there l.3 r.3 k is first_is second_is go a.1 d.1 in
      record { places_are = z.places_are; items_are = l.2 ∙ z.items_are ∙ sym r.2; ends = z.ends; bytes = z.bytes }

  step : (v : V) (rest : List V) (ps qs : List ℕ) (p q : ℕ) (xs ys : List (ℕ × V)) (n at : ℕ) (seen : List ℕ)
      → Refers none items p v → Refers none more q v
      → Tiles G align b at end xs → Tiles G align c at last ys → Within xs items → Within ys more
      → fold add_place seen (p ∷ ps) ≡ seen ++ firsts xs → fold add_place seen (q ∷ qs) ≡ seen ++ firsts ys
      → AllByRecursion Known seen → slice_get vs n ≡ Some v → slice_get places n ≡ Some p → slice_get others n ≡ Some q → Goes ps qs
      → Same at (p ∷ ps) (q ∷ qs) xs ys
  step v rest ps qs p q xs ys n at seen z y s t i j o w k is first_is second_is go = by_need (none v) refl
    where
      by_sight : (l r : Bool) → list_any (λ x. eqb x p) seen ≡ l → list_any (λ x. eqb x q) seen ≡ r → (0 < p) × Among items p v → (0 < q) × Among more q v → Same at (p ∷ ps) (q ∷ qs) xs ys
      by_sight true r e m a d =
          seen_already p q ps qs xs ys at seen s t i j o w k go (known_first n p q v a.0 (seen_holds Known seen p k e) is first_is second_is a.1) (add_place-known seen p e)
      by_sight false true e m a d =
          let same : p ≡ q = known_second n p q v d.0 (seen_holds Known seen q k m) is first_is second_is d.1 in
          seen_already p q ps qs xs ys at seen s t i j o w k go same (add_place-known seen p (ap (λ (x : ℕ). list_any (λ y. eqb y x) seen) same ∙ m))
      by_sight false false e m a d = new_one v p q n ps qs xs ys at seen s t i j o w k is first_is second_is go a d e m

      by_need : (need : Bool) → none v ≡ need → Same at (p ∷ ps) (q ∷ qs) xs ys
      by_need true e =
          let a = refers_none none items p v e z in let d = refers_none none more q v e y in
          seen_already p q ps qs xs ys at seen s t i j o w k go (a ∙ sym d) (ap (λ (m : ℕ). add_place seen m) a)
      by_need false e =
          by_sight (list_any (λ x. eqb x p) seen) (list_any (λ x. eqb x q) seen) refl refl (refers_some none items p v e z) (refers_some none more q v e y)

  walk : (rest : List V) (ps qs : List ℕ) (xs ys : List (ℕ × V)) (n at : ℕ) (seen : List ℕ)
      → From rest vs n → From ps places n → From qs others n
      → AllZip (Refers none items) ps rest → AllZip (Refers none more) qs rest
      → Tiles G align b at end xs → Tiles G align c at last ys → Within xs items → Within ys more
      → fold add_place seen ps ≡ seen ++ firsts xs → fold add_place seen qs ≡ seen ++ firsts ys
      → AllByRecursion Known seen → Same at ps qs xs ys
  walk [] [] [] xs ys n at seen f g h z y s t i j o w k =
      nothing_left at xs ys s t
      (append_cancel_left seen (firsts xs) [] (sym o ∙ sym (append-nil seen)))
      (append_cancel_left seen (firsts ys) [] (sym w ∙ sym (append-nil seen)))
  walk [] [] (q ∷ qs) xs ys n at seen f g h z y s t i j o w k = absurd y
  walk [] (p ∷ ps) qs xs ys n at seen f g h z y s t i j o w k = absurd z
  walk (v ∷ rest) [] qs xs ys n at seen f g h z y s t i j o w k = absurd z
  walk (v ∷ rest) (p ∷ ps) [] xs ys n at seen f g h z y s t i j o w k = absurd y
  walk (v ∷ rest) (p ∷ ps) (q ∷ qs) xs ys n at seen f g h z y s t i j o w k =
      step v rest ps qs p q xs ys n at seen z.0 y.0 s t i j o w k (from_here v rest vs n f) (from_here p ps places n g) (from_here q qs others n h)
      (λ next us ws sight. walk rest ps qs us ws (suc n) next sight (from_next v rest vs n f) (from_next p ps places n g) (from_next q qs others n h) z.1 y.1)

pub layings_one : {V : Type 0} (none : V → Bool) (G : List ℕ → V → Type 0) (align : ℕ) (begin end last : ℕ) (b c : List ℕ) (vs : List V) (places others : List ℕ) (count number : ℕ)
    → HaveOneSpelling G vs → AreBytes b → AreBytes c → end ≤ length b → last ≤ length c
    → Lays none G align begin end b vs places count → AreShared places vs
    → Lays none G align begin last c vs others number → AreShared others vs
    → AreSame b c begin end last places others count number
unfolding distinct_places
layings_one none G align begin end last b c vs places others count number once bytes_b bytes_c in_b in_c l shared m alike =
    let r = walk none G align begin end last b c bytes_b bytes_c in_b in_c vs places others l.items m.items l.tiled m.tiled l.each m.each shared alike once
    vs places others l.items m.items 0 begin [] (from_start vs) (from_start places) (from_start others) l.each m.each l.tiled m.tiled (λ p v a. a) (λ p v a. a) (sym l.order) (sym m.order) tt in
    record {
      places_are = r.places_are;
      ends = r.ends;
      counts = l.counted ∙ ap length r.items_are ∙ sym m.counted;
      bytes = r.bytes;
    }
