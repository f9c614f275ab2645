-- Lists whose elements refer to those of another list, one by one.
use Rattle.std.proofs.Common.{◌≡◌, ℕ, zero, suc, List, [], ◌∷◌, ◌++◌, length, take, drop, ap, subst, arith, Option, Some, slice_get}
use Rattle.std.specs.List.{AllByRecursion, AllZip}
use Rattle.file_limits.specs.Wide.{bodies_of}
use Rattle.file_limits.specs.inner.Wide.{body_values}
use Rattle.program_types.specs.Content.{Class, Code, Program}
use Rattle.file_put.specs.inner.Data.{ClassWithCodes, method_count, with_code_places}
use Rattle.file_put.proofs.SitedLaws.{count_of_bodies, rest_after}

-- ---- two lists, element by element

-- the part that refers to the first of two lists, and the rest
pub zip_front : {A B : Type 0} (R : A → B → Type 0) (xs : List A) (ys zs : List B) → AllZip R xs (ys ++ zs) → AllZip R (take (length ys) xs) ys
zip_front R xs [] zs z = tt
zip_front R [] (y ∷ ys) zs z = absurd z
zip_front R (x ∷ xs) (y ∷ ys) zs z = (z.0, zip_front R xs ys zs z.1)

pub zip_back : {A B : Type 0} (R : A → B → Type 0) (xs : List A) (ys zs : List B) → AllZip R xs (ys ++ zs) → AllZip R (drop (length ys) xs) zs
zip_back R xs [] zs z = z
zip_back R [] (y ∷ ys) zs z = absurd z
zip_back R (x ∷ xs) (y ∷ ys) zs z = zip_back R xs ys zs z.1

-- two lists of two parts each, the first ones of one length
pub zip_first : {A B : Type 0} (R : A → B → Type 0) (xs us : List A) (ys vs : List B) → length xs ≡ length ys → AllZip R (xs ++ us) (ys ++ vs) → AllZip R xs ys
zip_first R [] us [] vs e z = tt
zip_first R [] us (y ∷ ys) vs e z = absurd (omega (arith, e))
zip_first R (x ∷ xs) us [] vs e z = absurd (omega (arith, e))
zip_first R (x ∷ xs) us (y ∷ ys) vs e z = (z.0, zip_first R xs us ys vs (omega (arith, e)) z.1)

pub zip_second : {A B : Type 0} (R : A → B → Type 0) (xs us : List A) (ys vs : List B) → length xs ≡ length ys → AllZip R (xs ++ us) (ys ++ vs) → AllZip R us vs
zip_second R [] us [] vs e z = z
zip_second R [] us (y ∷ ys) vs e z = absurd (omega (arith, e))
zip_second R (x ∷ xs) us [] vs e z = absurd (omega (arith, e))
zip_second R (x ∷ xs) us (y ∷ ys) vs e z = zip_second R xs us ys vs (omega (arith, e)) z.1

-- what follows from a fact of each second element
pub zip_kept : {A B : Type 0} (R T : A → B → Type 0) (P : B → Type 0) → ((x : A) (y : B) → P y → R x y → T x y) → (xs : List A) (ys : List B) → AllByRecursion P ys → AllZip R xs ys → AllZip T xs ys
zip_kept R T P f [] [] h z = tt
zip_kept R T P f [] (y ∷ ys) h z = absurd z
zip_kept R T P f (x ∷ xs) [] h z = absurd z
zip_kept R T P f (x ∷ xs) (y ∷ ys) h z = (f x y h.0 z.0, zip_kept R T P f xs ys h.1 z.1)

-- ---- one element

-- ---- the places of a class's bodies

-- each class's own places refer to its bodies
pub own_bodies : (R : ℕ → Option Code → Type 0) (p : Program) (codes : List ℕ) (i : ℕ) (c : Class) → slice_get p i ≡ Some c → AllZip R codes (body_values p)
    → AllZip R (take (method_count c) (rest_after p codes i)) (bodies_of c)
own_bodies R [] codes i c e z = absurd (cc e)
own_bodies R (d ∷ p) codes zero c e z =
    let same : d ≡ c = cc e in
    subst (λ (x : Class). AllZip R (take (method_count x) codes) (bodies_of x)) same
    (subst (λ (n : ℕ). AllZip R (take n codes) (bodies_of d)) (count_of_bodies d) (zip_front R codes (bodies_of d) (body_values p) z))
own_bodies R (d ∷ p) codes (suc i) c e z =
    own_bodies R p (drop (method_count d) codes) i c e
    (subst (λ (n : ℕ). AllZip R (drop n codes) (body_values p)) (count_of_bodies d) (zip_back R codes (bodies_of d) (body_values p) z))

abbrev pub own_sited : Class → List ℕ → ClassWithCodes
own_sited c codes = record { class = c; codes = take (method_count c) codes }

-- class i with its places
pub sited_get : (p : Program) (codes : List ℕ) (i : ℕ) (c : Class) → slice_get p i ≡ Some c → slice_get (with_code_places p codes) i ≡ Some (own_sited c (rest_after p codes i))
sited_get [] codes i c e = absurd (cc e)
sited_get (d ∷ p) codes zero c e = let same : d ≡ c = cc e in ap (λ (x : Class). Some (own_sited x codes)) same
sited_get (d ∷ p) codes (suc i) c e = sited_get p (drop (method_count d) codes) i c e
