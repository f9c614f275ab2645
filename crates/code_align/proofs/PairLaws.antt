-- Lists whose items stand in a relation one by one.
use Rattle.std.proofs.Common.{◌≡◌, ℕ, zero, suc, ◌+◌, ◌<◌, ◌≤◌, ◌++◌, List, [], ◌∷◌, map, length, get_or, drop, refl, sym, subst, ap, ◌∙◌, arith, Some}
use Rattle.std.specs.List.{AllByRecursion, flat_map, slice_get}
use Rattle.std.proofs.Math.ListN.{drop_of_length-le}
use Rattle.std.proofs.lemmas.List.{append_assoc, append-nil, map-append, drop_more}
use Rattle.code_align.specs.Programs.{Pairwise}

-- one item more
pub pair_step : {A B : Type 0} (R : B → B → Type 0) (f : A → B) (all out : List A) (i : ℕ) (d y : A) → i < length all
    → ((ys : List B) → Pairwise R (map f (drop i all)) ys → Pairwise R (map f all) (map f out ++ ys))
    → R (f (get_or all i d)) (f y)
    → (ys : List B) → Pairwise R (map f (drop (i + 1) all)) ys → Pairwise R (map f all) (map f (out ++ y ∷ []) ++ ys)
pair_step R f all out i d y l h r ys p =
    let more : drop i all ≡ get_or all i d ∷ drop (i + 1) all = drop_more all i d l in
    let joined : map f (out ++ y ∷ []) ++ ys ≡ map f out ++ f y ∷ ys = ap (λ z. z ++ ys) (map-append f out (y ∷ [])) ∙ append_assoc (map f out) (f y ∷ []) ys in
    subst (Pairwise R (map f all)) (sym joined) (h (f y ∷ ys) (subst (λ z. Pairwise R (map f z) (f y ∷ ys)) (sym more) (r, p)))

-- what fails of every item that stands in R to one fails of every list
pub none_paired : {A B : Type 0} (R : B → B → Type 0) (P : B → Type 0) (f : A → B) (all : List A) (i : ℕ) (d : A) → i < length all
    → ((y : B) → R (f (get_or all i d)) y → ¬ P y) → (ys : List B) → Pairwise R (map f all) ys → ¬ AllByRecursion P ys
none_paired R P f [] i d l h ys p a = absurd (omega arith)
none_paired R P f (x ∷ xs) i d l h [] p a = p
none_paired R P f (x ∷ xs) zero d l h (y ∷ ys) p a = h y p.0 a.0
none_paired R P f (x ∷ xs) (suc i) d l h (y ∷ ys) p a = none_paired R P f xs i d (omega arith) h ys p.1 a.1

-- lists that are made one by one are the same, where each of their items is
pub paired_lists : {A B : Type 0} (R : A → A → Type 0) (f g : A → List B) → ((x y : A) → R x y → g y ≡ f x) → (xs ys : List A) → Pairwise R xs ys → flat_map g ys ≡ flat_map f xs
paired_lists R f g h [] [] p = refl
paired_lists R f g h (x ∷ xs) (y ∷ ys) p = (λ i. h x y p.0 i ++ paired_lists R f g h xs ys p.1 i)
paired_lists R f g h [] (y ∷ ys) p = absurd p
paired_lists R f g h (x ∷ xs) [] p = absurd p

pub paired_maps : {A B : Type 0} (R : A → A → Type 0) (f : A → B) → ((x y : A) → R x y → f y ≡ f x) → (xs ys : List A) → Pairwise R xs ys → map f ys ≡ map f xs
paired_maps R f h [] [] p = refl
paired_maps R f h (x ∷ xs) (y ∷ ys) p = (λ i. h x y p.0 i ∷ paired_maps R f h xs ys p.1 i)
paired_maps R f h [] (y ∷ ys) p = absurd p
paired_maps R f h (x ∷ xs) [] p = absurd p

-- what holds of all items of the one list, and of items of the other
pub paired_all : {A : Type 0} (R : A → A → Type 0) (P Q S : A → Type 0) → ((x y : A) → R x y → P x → Q y → S y) → (xs ys : List A) → Pairwise R xs ys
    → AllByRecursion P xs → AllByRecursion Q ys → AllByRecursion S ys
paired_all R P Q S h [] [] p a b = tt
paired_all R P Q S h (x ∷ xs) (y ∷ ys) p a b = (h x y p.0 a.0 b.0, paired_all R P Q S h xs ys p.1 a.1 b.1)
paired_all R P Q S h [] (y ∷ ys) p a b = absurd p
paired_all R P Q S h (x ∷ xs) [] p a b = absurd p

-- the item that one stands in R to
pub record Partner {A : Type 0} (R : A → A → Type 0) (xs : List A) (i : ℕ) (y : A) : Type 0 where
  pub item : A
  pub there : slice_get xs i ≡ Some item
  pub related : R item y

pub partner_of : {A : Type 0} (R : A → A → Type 0) (xs ys : List A) → Pairwise R xs ys → (i : ℕ) (y : A) → slice_get ys i ≡ Some y → Partner R xs i y
partner_of R [] [] p i y e = absurd cc
partner_of R (x ∷ xs) (z ∷ ys) p zero y e = record { item = x; there = refl; related = subst (R x) (some_is e) p.0 }
  where
    some_is : Some z ≡ Some y → z ≡ y
    some_is q = cc
partner_of R (x ∷ xs) (z ∷ ys) p (suc i) y e = let r = partner_of R xs ys p.1 i y e in record { item = r.item; there = r.there; related = r.related }
partner_of R [] (z ∷ ys) p i y e = absurd p
partner_of R (x ∷ xs) [] p i y e = absurd p

-- at the end
pub pair_done : {A B : Type 0} (R : B → B → Type 0) (f : A → B) (all out : List A) (i : ℕ) → length all ≤ i
    → ((ys : List B) → Pairwise R (map f (drop i all)) ys → Pairwise R (map f all) (map f out ++ ys)) → Pairwise R (map f all) (map f out)
pair_done R f all out i l h =
    let none : drop i all ≡ [] = drop_of_length-le all l in
    subst (Pairwise R (map f all)) (append-nil (map f out)) (h [] (subst (λ z. Pairwise R (map f z) []) (sym none) tt))

-- ---- what holds of all

pub all_more : {A B : Type 0} (P : B → Type 0) (f : A → B) (xs : List A) (y : A) → AllByRecursion P (map f xs) → P (f y) → AllByRecursion P (map f (xs ++ y ∷ []))
all_more P f [] y h p = (p, tt)
all_more P f (x ∷ xs) y h p = (h.0, all_more P f xs y h.1 p)
