-- Numbers as tests and as spellings.
use Rattle.std.proofs.Common.{◌≡◌, ℕ, ◌<◌, ◌≤◌, Bool, true, false, ltb, ◌&&◌, inl, inr, List, [], ◌∷◌, length, drop, refl, sym, subst, ◌∙◌, arith, eqb}
use Rattle.std.proofs.lemmas.Bool.{lt-ltb, ltb-true, eqb-true, and_parts}
use Rattle.std.specs.List.{list_all}
use Rattle.std.specs.Char.{digit_value}
use Rattle.std.specs.Str.Parse.{IsNumeral, AllDigits, digits_value}
use Rattle.listing_words.specs.Numbers.{SpellsNatural, all_digits, has_prefix, is_natural, natural_value, is_number}

digits_true : (radix : ℕ) (ds : List ℕ) → list_all (λ c. ltb (digit_value c) radix) ds ≡ true → AllDigits radix ds
digits_true radix [] e = tt
digits_true radix (c ∷ cs) e = let b = and_parts (ltb (digit_value c) radix) (list_all (λ c. ltb (digit_value c) radix) cs) e in (ltb-true (digit_value c) radix b.0, digits_true radix cs b.1)

true_digits : (radix : ℕ) (ds : List ℕ) → AllDigits radix ds → list_all (λ c. ltb (digit_value c) radix) ds ≡ true
true_digits radix [] h = refl
true_digits radix (c ∷ cs) h = rw (lt-ltb (digit_value c) radix h.0) (true_digits radix cs h.1)

numeral_of : (radix : ℕ) (ds : List ℕ) → all_digits radix ds ≡ true → IsNumeral radix ds
numeral_of radix ds e = let b = and_parts (ltb 0 (length ds)) (list_all (λ c. ltb (digit_value c) radix) ds) e in (ltb-true 0 (length ds) b.0, digits_true radix ds b.1)

of_numeral : (radix : ℕ) (ds : List ℕ) → IsNumeral radix ds → all_digits radix ds ≡ true
of_numeral radix ds h = rw (lt-ltb 0 (length ds) h.0) (true_digits radix ds h.1)

prefix_of : (w : List ℕ) → has_prefix w ≡ true → w ≡ 48 ∷ 120 ∷ drop 2 w
prefix_of [] e = absurd cc
prefix_of (a ∷ []) e = let b = and_parts (eqb a 48) (eqb 0 120) e in absurd cc
prefix_of (a ∷ c ∷ ds) e = let b = and_parts (eqb a 48) (eqb c 120) e in let i = eqb-true a 48 b.0 in let j = eqb-true c 120 b.1 in cc

no_prefix : (w : List ℕ) → AllDigits 10 w → has_prefix w ≡ true → ⊥
no_prefix w a e = let b = subst (AllDigits 10) (prefix_of w e) a in let c : digit_value 120 < 10 = b.1.0 in omega arith

chosen : (b : Bool) (w : List ℕ) → has_prefix w ≡ b → is_natural w ≡ true → SpellsNatural w (natural_value w)
chosen true w e n = inr (drop 2 w, prefix_of w e, numeral_of 16 (drop 2 w) (rw e at n), rw e refl)
chosen false w e n = inl (numeral_of 10 w (rw e at n), rw e refl)

pub natural_spelled : (w : List ℕ) → is_natural w ≡ true → SpellsNatural w (natural_value w)
natural_spelled w n = chosen (has_prefix w) w refl n

decimal_tests : (b : Bool) (w : List ℕ) (n : ℕ) → has_prefix w ≡ b → IsNumeral 10 w → n ≡ digits_value 10 w → (is_natural w ≡ true) × (natural_value w ≡ n)
decimal_tests true w n e d m = absurd (no_prefix w d.1 e)
decimal_tests false w n e d m = rw e (of_numeral 10 w d, sym m)

pub spelled_natural : (w : List ℕ) (n : ℕ) → SpellsNatural w n → (is_natural w ≡ true) × (natural_value w ≡ n)
spelled_natural w n h = elim h [
  | inl a ↦ decimal_tests (has_prefix w) w n refl a.0 a.1
  | inr a ↦ rw a.1 (of_numeral 16 a.0 a.2, sym a.3)
]

pub number_found : (w : List ℕ) (m n : ℕ) → SpellsNatural w m → eqb m n ≡ is_number w n
number_found w m n h = let t = spelled_natural w m h in rw (t.0, t.1) refl

none_number : (w : List ℕ) (n : ℕ) (a b : Bool) → is_natural w ≡ a → eqb (natural_value w) n ≡ b → ((m : ℕ) → SpellsNatural w m → m ≤ n → ⊥) → false ≡ (a && b)
none_number w n true true e f none = let k = eqb-true (natural_value w) n f in absurd (none (natural_value w) (natural_spelled w e) (omega arith))
none_number w n true false e f none = refl
none_number w n false b e f none = refl

pub number_none : (w : List ℕ) (n : ℕ) → ((m : ℕ) → SpellsNatural w m → m ≤ n → ⊥) → false ≡ is_number w n
number_none w n none = none_number w n (is_natural w) (eqb (natural_value w) n) refl refl none

-- a word spells one number
pub natural_one : (w : List ℕ) (m n : ℕ) → SpellsNatural w m → SpellsNatural w n → m ≡ n
natural_one w m n p q = sym (spelled_natural w m p).1 ∙ (spelled_natural w n q).1
