-- Elements of lists.
use Rattle.std.proofs.Common.{◌≡◌, ℕ, ◌+◌, ◌<◌, ◌++◌, subst, List, [], ◌∷◌, map, length, get_or, take, refl, ap, arith, zero, suc}
use Rattle.std.specs.List.{AllByRecursion}

pub all-at : {A : Type 0} (P : A → Type 0) (xs : List A) (k : ℕ) (d : A) → AllByRecursion P xs → k < length xs → P (get_or xs k d)
all-at P [] k d h l = absurd (omega arith)
all-at P (x ∷ xs) zero d h l = h.0
all-at P (x ∷ xs) (suc k) d h l = all-at P xs k d h.1 (omega arith)

pub all-from : {A : Type 0} (P : A → Type 0) (xs : List A) (d : A) → ((k : ℕ) → k < length xs → P (get_or xs k d)) → AllByRecursion P xs
all-from P [] d h = tt
all-from P (x ∷ xs) d h = (h zero (omega arith), all-from P xs d (λ k l. h (suc k) (omega arith)))

-- what holds of the views of all holds of that of each
pub all-view : {A B : Type 0} (P : B → Type 0) (f : A → B) (xs : List A) (k : ℕ) (d : A) → AllByRecursion P (map f xs) → k < length xs → P (f (get_or xs k d))
all-view P f [] k d h l = absurd (omega arith)
all-view P f (x ∷ xs) zero d h l = h.0
all-view P f (x ∷ xs) (suc k) d h l = all-view P f xs k d h.1 (omega arith)

pub take-view : {A B : Type 0} (f : A → B) (xs : List A) (k : ℕ) (d : A) → k < length xs → take (k + 1) (map f xs) ≡ take k (map f xs) ++ f (get_or xs k d) ∷ []
take-view f [] k d l = absurd (omega arith)
take-view f (x ∷ xs) zero d l = refl
take-view {A} {B} f (x ∷ xs) (suc k) d l =
    let e : suc (k + 1) ≡ suc k + 1 = omega arith in
    subst (λ (m : ℕ). take m (map f (x ∷ xs)) ≡ f x ∷ (take k (map f xs) ++ f (get_or xs k d) ∷ [])) e (ap (λ (ys : List B). f x ∷ ys) (take-view f xs k d (omega arith)))
