-- Items that are laid take values that have items.
use Rattle.std.proofs.Common.{◌≡◌, ◌≢◌, ℕ, suc, ◌<◌, Bool, true, false, List, [], ◌∷◌, ◌++◌, map, refl, sym, subst, Some, inl, inr}
use Rattle.std.specs.Prelude.{MatchBool, ◌==◌, ◌||◌, if◌then◌else◌}
use Rattle.std.specs.List.{AllByRecursion, AllZip, fold, list_any, slice_get}
use Rattle.std.proofs.lemmas.Bool.{eq-eqb}
use Rattle.file_layout.specs.Tiles.{Among, add_place, distinct_places}
use Rattle.file_layout.specs.inner.Tiles.{Lays, Refers}
use Rattle.dex_base.proofs.ListFacts.{all_weaker, all_append}

-- ---- a place has one item

-- ---- what holds of references holds of places

add_kept : (P : ℕ → Type 0) (seen : List ℕ) (place : ℕ) → AllByRecursion P seen → (place ≢ 0 → P place) → AllByRecursion P (add_place seen place)
add_kept P seen place h f = by (place == 0) (list_any (λ q. q == place) seen) (λ e. eq-eqb place 0 e)
  where
    by : (x y : Bool) → (place ≡ 0 → x ≡ true) → AllByRecursion P (if x || y then seen else seen ++ place ∷ [])
    by true y g = h
    by false true g = h
    by false false g = all_append P seen (place ∷ []) h (f (λ e. let z = g e in (cc z)), tt)

fold_kept : (P : ℕ → Type 0) (places seen : List ℕ) → AllByRecursion P seen → AllByRecursion (λ q. q ≢ 0 → P q) places → AllByRecursion P (fold add_place seen places)
fold_kept P [] seen h f = h
fold_kept P (place ∷ places) seen h f = fold_kept P places (add_place seen place) (add_kept P seen place h f.0) f.1

pub places_kept : (P : ℕ → Type 0) (places : List ℕ) → AllByRecursion (λ q. q ≢ 0 → P q) places → AllByRecursion P (distinct_places places)
unfolding distinct_places
places_kept P places f = fold_kept P places [] tt f

-- ---- items

-- A value that has an item stands at the place: it is that of some turn, which refers to the place.
pub record HasItem {V : Type 0} (none : V → Bool) (items : List (ℕ × V)) (places : List ℕ) (vs : List V) (place : ℕ) : Type 0 where
  pub turn : ℕ
  pub value : V
  pub of : slice_get vs turn ≡ Some value
  pub at : slice_get places turn ≡ Some place
  pub some : none value ≡ false
  pub there : Among items place value

one_later : {V : Type 0} (none : V → Bool) (items : List (ℕ × V)) (places : List ℕ) (vs : List V) (p : ℕ) (v : V) (place : ℕ) → HasItem none items places vs place → HasItem none items (p ∷ places) (v ∷ vs) place
one_later none items places vs p v place h = record { turn = suc h.turn; value = h.value; of = h.of; at = h.at; some = h.some; there = h.there }

refers_kept : {V : Type 0} (none : V → Bool) (items : List (ℕ × V)) (places : List ℕ) (vs : List V) → AllZip (Refers none items) places vs → AllByRecursion (λ q. q ≢ 0 → HasItem none items places vs q) places
refers_kept none items [] [] z = tt
refers_kept none items [] (v ∷ vs) z = absurd z
refers_kept none items (place ∷ places) [] z = absurd z
refers_kept {V = V} none items (place ∷ places) (v ∷ vs) z = (
  by (none v) refl z.0,
  all_weaker (λ (q : ℕ). q ≢ 0 → HasItem none items places vs q) (λ (q : ℕ). q ≢ 0 → HasItem none items (place ∷ places) (v ∷ vs) q)
      (λ q h n. one_later none items places vs place v q (h n)) places (refers_kept none items places vs z.1),
)
  where
    by : (t : Bool) → none v ≡ t → MatchBool t (place ≡ 0) ((0 < place) × Among items place v) → place ≢ 0 → HasItem none items (place ∷ places) (v ∷ vs) place
    by true e r f = absurd (f r)
    by false e r f = record { turn = 0; value = v; of = refl; at = refl; some = e; there = r.1 }

pub among_kept : {V : Type 0} (P : ℕ → Type 0) (items : List (ℕ × V)) (place : ℕ) (v : V) → AllByRecursion P (map (λ (x : ℕ × V). x.0) items) → Among items place v → P place
among_kept P [] place v h a = absurd a
among_kept P (x ∷ items) place v h (inl e) = subst P e.0 h.0
among_kept P (x ∷ items) place v h (inr a) = among_kept P items place v h.1 a

-- each item is that of a turn
pub items_used : {V : Type 0} (none : V → Bool) (G : List ℕ → V → Type 0) (align begin end : ℕ) (b : List ℕ) (vs : List V) (places : List ℕ) (count : ℕ)
    → (l : Lays none G align begin end b vs places count) → (place : ℕ) (v : V) → Among l.items place v → HasItem none l.items places vs place
items_used {V = V} none G align begin end b vs places count l place v a =
    let all : AllByRecursion (HasItem none l.items places vs) (map (λ (x : ℕ × V). x.0) l.items) =
    subst (AllByRecursion (HasItem none l.items places vs)) (sym l.order) (places_kept (HasItem none l.items places vs) places (refers_kept none l.items places vs l.each)) in
    among_kept (HasItem none l.items places vs) l.items place v all a
