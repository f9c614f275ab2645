-- Facts on lists and options.
use Rattle.dex_base.proofs.Numbers.{spells_unique}
use Rattle.dex_base.proofs.ShortestLaws.{AllBytes}
use Rattle.dex_base.proofs.TakesLaws.{Takes-unique}
use Rattle.dex_base.specs.Fields.{AreBytes}
use Rattle.dex_base.specs.Grammar.{Takes}
use Rattle.dex_base.specs.Leb128.{Spells}
use Rattle.std.proofs.Common.{if◌then◌else◌, lit<, Bool, Err, List, Ok, Option, Result, Some, [], ap, arith, drop, false, get_or, inl, inr, length, length-drop, map, nat_lt, not, pos, refl, subst, suc, sym, take, take_all, true, zero, ℕ, ◌*◌, ◌++◌, ◌+◌, ◌-ℤ◌, ◌-◌, ◌<◌, ◌||◌, ◌∙◌, ◌∷◌, ◌≡◌, ◌⊎◌}
use Rattle.std.proofs.lemmas.Option.{slice_get-get_or, slice_get-map}
use Rattle.std.proofs.lemmas.Bool.Decides.{nat_tests}
use Rattle.std.proofs.lemmas.Int.{ints}
use Rattle.std.proofs.lemmas.List.{map-append, take_more}
use Rattle.std.specs.List.{AllByRecursion, AllZip, slice_get}
use Rattle.std.specs.Prelude.{IfErr, option_map}
use Rattle.std.specs.Result.{IsErrAnd}

pub by_kind : (b : Bool) → (b ≡ true) ⊎ (b ≡ false)
by_kind true = inl refl
by_kind false = inr refl

pub or_last : (x : Bool) → x || true ≡ true
or_last true = refl
or_last false = refl

pub number_one : (bytes : List ℕ) (m n : ℕ) (a b : List ℕ) → Takes Spells bytes m a → Takes Spells bytes n b → (m ≡ n) × (a ≡ b)
number_one bytes m n a b p q = Takes-unique Spells bytes m n a b spells_unique p q

pub all_of : (b : List ℕ) → AreBytes b → AllBytes b
all_of [] h = tt
all_of (x ∷ xs) h = (h 0, all_of xs (λ i. h (suc i)))

pub take_bytes : (n : ℕ) (bytes : List ℕ) → AreBytes bytes → AreBytes (take n bytes)
take_bytes zero bytes are i = lit< tt
take_bytes (suc n) [] are i = lit< tt
take_bytes (suc n) (x ∷ xs) are zero = are 0
take_bytes (suc n) (x ∷ xs) are (suc i) = take_bytes n xs (λ j. are (suc j)) i

pub by_half : (x y h m : ℕ) → x < m → y < m → (if nat_lt x h then pos x else pos x -ℤ pos m) ≡ (if nat_lt y h then pos y else pos y -ℤ pos m) → x ≡ y
by_half x y h m p q e = grind (arith, nat_tests, ints)

pub four_bytes : (x0 x1 x2 x3 y0 y1 y2 y3 : ℕ) → x0 < 256 → x1 < 256 → x2 < 256 → x3 < 256 → y0 < 256 → y1 < 256 → y2 < 256 → y3 < 256
    → x0 + 256 * (x1 + 256 * (x2 + 256 * (x3 + 256 * 0))) ≡ y0 + 256 * (y1 + 256 * (y2 + 256 * (y3 + 256 * 0))) → (x0 ≡ y0) × (x1 ≡ y1) × (x2 ≡ y2) × (x3 ≡ y3)
four_bytes x0 x1 x2 x3 y0 y1 y2 y3 a b c d e f g h s =
    let p : x0 ≡ y0 = omega arith in
    let q : x1 ≡ y1 = omega arith in
    let r : x2 ≡ y2 = omega arith in
    (p, q, r, omega arith)

pub get_last : {A : Type 0} (xs : List A) (x : A) → slice_get (xs ++ x ∷ []) (length xs) ≡ Some x
get_last [] x = refl
get_last (z ∷ xs) x = get_last xs x

pub slice_split : {A : Type 0} (xs : List A) (x y : A) (k : ℕ) → slice_get (xs ++ x ∷ []) k ≡ Some y → (slice_get xs k ≡ Some y) ⊎ ((k ≡ length xs) × (x ≡ y))
slice_split [] x y zero at = inr (refl, cc)
slice_split [] x y (suc k) at = absurd (cc at)
slice_split (z ∷ xs) x y zero at = inl at
slice_split (z ∷ xs) x y (suc k) at = elim (slice_split xs x y k at) [ inl h ↦ inl h | inr h ↦ inr (ap suc h.0, h.1) ]

pub all_there : {V : Type 0} (P : V → Type 0) (vs : List V) → ((i : ℕ) (v : V) → slice_get vs i ≡ Some v → P v) → AllByRecursion P vs
all_there P [] f = tt
all_there P (v ∷ vs) f = (f 0 v refl, all_there P vs (λ i w e. f (suc i) w e))

pub all_front : {A : Type 0} (P : A → Type 0) (xs ys : List A) → AllByRecursion P (xs ++ ys) → AllByRecursion P xs
all_front P [] ys h = tt
all_front P (x ∷ xs) ys h = (h.0, all_front P xs ys h.1)

pub all_back : {A : Type 0} (P : A → Type 0) (xs ys : List A) → AllByRecursion P (xs ++ ys) → AllByRecursion P ys
all_back P [] ys h = h
all_back P (x ∷ xs) ys h = all_back P xs ys h.1

pub all_append : {A : Type 0} (P : A → Type 0) (xs ys : List A) → AllByRecursion P xs → AllByRecursion P ys → AllByRecursion P (xs ++ ys)
all_append P [] ys p q = q
all_append P (x ∷ xs) ys p q = (p.0, all_append P xs ys p.1 q)

pub slice_left : {A : Type 0} (xs ys : List A) (k : ℕ) (x : A) → slice_get xs k ≡ Some x → slice_get (xs ++ ys) k ≡ Some x
slice_left [] ys k x at = absurd (cc at)
slice_left (y ∷ xs) ys zero x at = at
slice_left (y ∷ xs) ys (suc k) x at = slice_left xs ys k x at

pub some_inj : {A : Type 0} (x y : A) → Some x ≡ Some y → x ≡ y
some_inj x y e = cc

pub some_one : {A : Type 0} (o : Option A) (x y : A) → o ≡ Some x → o ≡ Some y → x ≡ y
some_one o x y p q = cc

pub passed : {T E : Type 0} (r : Result T E) (e : E) (P : E → Type 0) → IsErrAnd r (λ x. x ≡ e) → P e → IfErr r P
passed (Ok v) e P h p = absurd h
passed (Err x) e P h p = subst P (sym h) p

pub zip_more : {A B : Type 0} (R : A → B → Type 0) (xs : List A) (ys : List B) (x : A) (y : B) → AllZip R xs ys → R x y → AllZip R (xs ++ x ∷ []) (ys ++ y ∷ [])
zip_more R [] [] x y h r = (r, tt)
zip_more R [] (b ∷ ys) x y h r = absurd h
zip_more R (a ∷ xs) [] x y h r = absurd h
zip_more R (a ∷ xs) (b ∷ ys) x y h r = (h.0, zip_more R xs ys x y h.1 r)

pub zip_length : {A B : Type 0} (R : A → B → Type 0) (xs : List A) (ys : List B) → AllZip R xs ys → length xs ≡ length ys
zip_length R [] [] h = refl
zip_length R [] (y ∷ ys) h = absurd h
zip_length R (x ∷ xs) [] h = absurd h
zip_length R (x ∷ xs) (y ∷ ys) h = ap suc (zip_length R xs ys h.1)

pub map_more : {A B : Type 0} (f : A → B) (xs : List A) (i : ℕ) (d : A) → i < length xs → map f (take (i + 1) xs) ≡ map f (take i xs) ++ f (get_or xs i d) ∷ []
map_more f xs i d h = rw (take_more xs i d h) (map-append f (take i xs) (get_or xs i d ∷ []))

pub all_at : {A B : Type 0} (P : B → Type 0) (f : A → B) (xs : List A) (i : ℕ) (d : A) → i < length xs → AllByRecursion P (map f xs) → P (f (get_or xs i d))
all_at P f [] i d l h = absurd (omega arith)
all_at P f (x ∷ xs) zero d l h = h.0
all_at P f (x ∷ xs) (suc i) d l h = all_at P f xs i d (omega arith) h.1

pub all_map : {A B : Type 0} (P : B → Type 0) (f : A → B) (xs : List A) → AllByRecursion (λ x. P (f x)) xs → AllByRecursion P (map f xs)
all_map P f [] h = tt
all_map P f (x ∷ xs) h = (h.0, all_map P f xs h.1)

pub all_weaker : {A : Type 0} (P Q : A → Type 0) → ((x : A) → P x → Q x) → (xs : List A) → AllByRecursion P xs → AllByRecursion Q xs
all_weaker P Q f [] h = tt
all_weaker P Q f (x ∷ xs) h = (f x h.0, all_weaker P Q f xs h.1)

pub all_get : {A : Type 0} (P : A → Type 0) (xs : List A) (k : ℕ) (x : A) → AllByRecursion P xs → slice_get xs k ≡ Some x → P x
all_get P [] k x h at = absurd cc
all_get P (y ∷ xs) zero x h at = let e : y ≡ x = cc in subst P e h.0
all_get P (y ∷ xs) (suc k) x h at = all_get P xs k x h.1 at

pub zip_weaker : {A B : Type 0} (R S : A → B → Type 0) → ((x : A) (y : B) → R x y → S x y) → (xs : List A) (ys : List B) → AllZip R xs ys → AllZip S xs ys
zip_weaker R S f [] [] h = tt
zip_weaker R S f [] (y ∷ ys) h = absurd h
zip_weaker R S f (x ∷ xs) [] h = absurd h
zip_weaker R S f (x ∷ xs) (y ∷ ys) h = (f x y h.0, zip_weaker R S f xs ys h.1)

pub zip_append : {A B : Type 0} (R : A → B → Type 0) (xs us : List A) (ys vs : List B) → AllZip R xs ys → AllZip R us vs → AllZip R (xs ++ us) (ys ++ vs)
zip_append R [] us [] vs z w = w
zip_append R [] us (y ∷ ys) vs z w = absurd z
zip_append R (x ∷ xs) us [] vs z w = absurd z
zip_append R (x ∷ xs) us (y ∷ ys) vs z w = (z.0, zip_append R xs us ys vs z.1 w)

-- what `&xs[k..]` is
pub rest_is : (k : ℕ) (xs : List ℕ) → take (length xs - k) (drop k xs) ≡ drop k xs
rest_is k xs = take_all (length xs - k) (drop k xs) (omega (arith, length-drop k xs))

pub map_at : {A B : Type 0} (f : A → B) (xs : List A) (i : ℕ) (d : A) → i < length xs → slice_get (map f xs) i ≡ Some (f (get_or xs i d))
map_at f xs i d lt = slice_get-map f xs i ∙ ap (option_map f) (slice_get-get_or xs i d lt)

pub not_true : (b : Bool) → not b ≡ true → b ≡ false
not_true true e = absurd cc
not_true false e = refl
