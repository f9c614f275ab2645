-- What is laid stands at its places.
use Rattle.std.proofs.Common.{◌≡◌, ℕ, zero, suc, ◌+◌, ◌%◌, ◌<◌, ◌≤◌, Bool, false, eqb, List, [], ◌∷◌, length, get_or, refl, ap, ◌∙◌, subst, arith, Some}
use Rattle.std.specs.List.{AllZip, slice_get}
use Rattle.dex_container.specs.Where.{slice, At, AtOrNone}
use Rattle.file_layout.specs.Tiles.{Among, gap}
use Rattle.file_layout.specs.inner.Tiles.{Refers, Lays}
use Rattle.file_layout.specs.declared.plan.Part.{Part}
use Rattle.file_layout.specs.inner.Sections.{IsItself, is_empty_list}
use Rattle.file_layout.specs.inner.Parts.{SectionReaches, HasPart}
use Rattle.file_layout.proofs.TileLaws.{Tiles-among}
use Rattle.dex_base.proofs.ListFacts.{zip_weaker}

some_among : {V : Type 0} (items : List (ℕ × V)) (place : ℕ) (v : V) → Among items place v → 0 < length items
some_among [] place v a = absurd a
some_among (x ∷ xs) place v a = omega arith

pub at_item : {V : Type 0} (none : V → Bool) (G H : List ℕ → V → Type 0) (align : ℕ) (b : List ℕ) (kind first begin end : ℕ) (vs : List V) (places : List ℕ) (count place : ℕ) (v : V)
    → (l : Lays none G align begin end b vs places count) → (0 < count → SectionReaches b kind first end) → first ≤ begin + gap align begin → ((n : ℕ) → (n + gap align n) % align ≡ 0) → ((bytes : List ℕ) → G bytes v → H bytes v)
    → Among l.items place v → At H b kind align place v
at_item none G H align b kind first begin end vs places count place v l reaches low_first even weaker a =
    let s = Tiles-among place v l.tiled a in
    let some = some_among l.items place v a in
    let c = l.counted in
    let r = reaches (omega (arith, some, c)) in
    let low = s.low in let high = s.high in let far = r.reaches in
    record {
      begin = first;
      end = r.last;
      section = r.section;
      after = omega (arith, low, low_first);
      aligned = ap (λ n. n % align) s.aligned ∙ even s.before;
      size = s.size;
      within = omega (arith, high, far);
      spelled = weaker (slice b place s.size) s.spelled;
    }

pub at_list : {V : Type 0} (G H : List ℕ → List V → Type 0) (align : ℕ) (b : List ℕ) (kind first begin end : ℕ) (vs : List (List V)) (places : List ℕ) (count place : ℕ) (v : List V)
    → (l : Lays is_empty_list G align begin end b vs places count) → (0 < count → SectionReaches b kind first end) → first ≤ begin + gap align begin → ((n : ℕ) → (n + gap align n) % align ≡ 0) → ((bytes : List ℕ) → G bytes v → H bytes v)
    → Refers is_empty_list l.items place v → AtOrNone H b kind align place v
at_list G H align b kind first begin end vs places count place [] l reaches low even weaker r = rw r refl
at_list G H align b kind first begin end vs places count place (x ∷ xs) l reaches low even weaker r =
    let z : eqb place 0 ≡ false = let p = r.0 in grind arith in
    rw z (at_item is_empty_list G H align b kind first begin end vs places count place (x ∷ xs) l reaches low even weaker r.1)

pub even_one : (n : ℕ) → (n + gap 1 n) % 1 ≡ 0
even_one n = omega arith

pub even_four : (n : ℕ) → (n + gap 4 n) % 4 ≡ 0
even_four n = omega arith

pub zip_at : {B : Type 0} (R : ℕ → B → Type 0) (xs : List ℕ) (ys : List B) (i : ℕ) (y : B) → AllZip R xs ys → slice_get ys i ≡ Some y → R (get_or xs i 0) y
zip_at R [] [] i y h e = absurd (cc e)
zip_at R [] (y ∷ ys) i z h e = absurd h
zip_at R (x ∷ xs) [] i y h e = absurd h
zip_at R (x ∷ xs) (y ∷ ys) zero z h e = let s : y ≡ z = cc e in subst (R x) s h.0
zip_at R (x ∷ xs) (y ∷ ys) (suc i) z h e = zip_at R xs ys i z h.1 e

-- lists that are their own bytes, in a part
pub lists_stand : (b : List ℕ) (kind : ℕ) (p : Part) (vs : List (List ℕ)) (places : List ℕ) → HasPart b kind p → Lays is_empty_list IsItself 4 p.begin p.end b vs places p.items → AllZip (AtOrNone IsItself b kind 4) places vs
lists_stand b kind p vs places part l =
    zip_weaker (Refers is_empty_list l.items) (AtOrNone IsItself b kind 4)
    (λ place v. at_list IsItself IsItself 4 b kind p.begin p.begin p.end vs places p.items place v l part.stands (omega arith) even_four (λ bytes s. s))
    places vs l.each
