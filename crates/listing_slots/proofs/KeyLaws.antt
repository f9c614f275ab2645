-- Texts that are equal.
use Rattle.std.proofs.Common.{◌≡◌, ◌≢◌, ℕ, suc, ◌-◌, ◌<◌, true, false, List, [], ◌∷◌, length, get_or, refl, ap, subst, arith, None}
use Rattle.std.proofs.lemmas.Bool.{and_right, and_parts, eqb-true, false_from_ne_true}
use lib.Pointwise.{pointwise}
use lib.Dec.{eqb}
use Rattle.std.specs.List.{AllByRecursion}
use Rattle.listing_slots.specs.declared.key.Key.{Key}
use Rattle.listing_slots.specs.declared.key.Key.TheVariants as key
use Rattle.listing_slots.specs.Keys.{key_text, same, find_key, lead_keys, payload_keys}

pub same_is : (xs ys : List ℕ) → pointwise eqb xs ys ≡ same xs ys
unfolding same
same_is [] [] = refl
same_is [] (y ∷ ys) = refl
same_is (x ∷ xs) [] = refl
same_is (x ∷ xs) (y ∷ ys) = rw (same_is xs ys) refl

pub same_true : (xs ys : List ℕ) → same xs ys ≡ true → xs ≡ ys
unfolding same
same_true [] [] e = refl
same_true [] (y ∷ ys) e = absurd cc
same_true (x ∷ xs) [] e = absurd cc
same_true (x ∷ xs) (y ∷ ys) e = let p = and_parts (eqb x y) (same xs ys) e in let a = eqb-true x y p.0 in let b = same_true xs ys p.1 in cc

pub other_length : (xs ys : List ℕ) → length xs ≢ length ys → same xs ys ≡ false
unfolding same
other_length [] [] n = absurd (n refl)
other_length [] (y ∷ ys) n = refl
other_length (x ∷ xs) [] n = refl
other_length (x ∷ xs) (y ∷ ys) n = and_right (eqb x y) (same xs ys) (other_length xs ys (λ e. n (ap suc e)))

find_other : (keys : List Key) (text : List ℕ) → AllByRecursion (λ k. same (key_text k) text ≡ false) keys → find_key keys text ≡ None
unfolding find_key
find_other [] text h = refl
find_other (k ∷ ks) text h = rw h.0 (find_other ks text h.1)

find_none : (keys : List Key) (text : List ℕ) → AllByRecursion (λ k. length (key_text k) ≢ length text) keys → find_key keys text ≡ None
unfolding find_key
find_none [] text h = refl
find_none (k ∷ ks) text h = rw (other_length (key_text k) text h.0) (find_none ks text h.1)

longer : (m n : ℕ) → n < m → m ≢ n
longer m n h e = omega (arith, h, e)

-- the shortest word of a payload is `array-payload`
pub no_payload : (text : List ℕ) → length text < 13 → find_key payload_keys text ≡ None
unfolding key_text
no_payload text h =
    let is13 = longer 13 (length text) (omega (arith, h)) in
    let is21 = longer 21 (length text) (omega (arith, h)) in
    find_none payload_keys text (is21, (is21, (is13, tt)))

-- every word of a payload ends with `d`
other_end : (a text : List ℕ) → get_or a (length a - 1) 0 ≡ 100 → get_or text (length text - 1) 0 ≢ 100 → same a text ≡ false
other_end a text e n =
    false_from_ne_true (same a text) (λ t. n (subst (λ (w : List ℕ). get_or w (length w - 1) 0 ≡ 100) (same_true a text t) e))

pub no_payload_end : (text : List ℕ) → get_or text (length text - 1) 0 ≢ 100 → find_key payload_keys text ≡ None
unfolding key_text
no_payload_end text n =
    find_other payload_keys text (other_end (key_text key.Packed) text refl n, (other_end (key_text key.Sparse) text refl n, (other_end (key_text key.Elements) text refl n, tt)))

shorter : (m n : ℕ) → m < n → m ≢ n
shorter m n h e = omega (arith, h, e)

-- the longest keyword of a line is `implements`
pub no_lead : (text : List ℕ) → 10 < length text → find_key lead_keys text ≡ None
unfolding key_text
no_lead text h =
    let n = length text in
    let is3 = shorter 3 n (omega (arith, h)) in
    let is4 = shorter 4 n (omega (arith, h)) in
    let is5 = shorter 5 n (omega (arith, h)) in
    let is6 = shorter 6 n (omega (arith, h)) in
    let is7 = shorter 7 n (omega (arith, h)) in
    let is8 = shorter 8 n (omega (arith, h)) in
    let is10 = shorter 10 n (omega (arith, h)) in
    find_none lead_keys text (is3, (is5, (is3, (is5, (is10, (is6, (is6, (is8, (is6, (is7, (is4, (is3, (is5, (is8, tt))))))))))))))
