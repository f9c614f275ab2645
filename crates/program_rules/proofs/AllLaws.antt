-- What holds of all elements of lists.
use Rattle.std.proofs.Common.{ℕ, ◌<◌, List, [], ◌∷◌, map, length, get_or, drop, arith, zero, suc}
use Rattle.std.specs.List.{AllByRecursion, flat_map}
use Rattle.dex_base.proofs.ListFacts.{all_append, all_back, all_front}

-- what holds of all from a place on holds there
pub all-here : {A B : Type 0} (P : B → Type 0) (f : A → B) (xs : List A) (i : ℕ) (d : A) → i < length xs → AllByRecursion P (map f (drop i xs)) → P (f (get_or xs i d))
all-here P f [] i d l h = absurd (omega arith)
all-here P f (x ∷ xs) zero d l h = h.0
all-here P f (x ∷ xs) (suc i) d l h = all-here P f xs i d (omega arith) h

-- all of lists, list by list
pub all-lists : {A B : Type 0} (P : B → Type 0) (f : A → List B) (xs : List A) → AllByRecursion P (flat_map f xs) → AllByRecursion (λ x. AllByRecursion P (f x)) xs
all-lists P f [] h = tt
all-lists P f (x ∷ xs) h = (all_front P (f x) (flat_map f xs) h, all-lists P f xs (all_back P (f x) (flat_map f xs) h))

pub all-joined : {A B : Type 0} (P : B → Type 0) (f : A → List B) (xs : List A) → AllByRecursion (λ x. AllByRecursion P (f x)) xs → AllByRecursion P (flat_map f xs)
all-joined P f [] h = tt
all-joined P f (x ∷ xs) h = all_append P (f x) (flat_map f xs) h.0 (all-joined P f xs h.1)

-- all of a list that is made one by one
pub all-made : {A B : Type 0} (P : B → Type 0) (f : A → B) (xs : List A) → AllByRecursion P (map f xs) → AllByRecursion (λ x. P (f x)) xs
all-made P f [] h = tt
all-made P f (x ∷ xs) h = (h.0, all-made P f xs h.1)
