-- Numbers after marks and signs.
use Rattle.std.proofs.Common.{◌≡◌, ℕ, ℤ, zero, suc, pos, ◌+◌, ◌^◌, ◌<◌, ◌≤◌, inl, inr, List, ◌∷◌, ◌++◌, refl, sym, ap, subst, ◌∙◌, arith}
use Rattle.std.specs.Prelude.{neg_ℤ, Option, Some, None, IfNone}
use Rattle.std.proofs.lemmas.Int.Digits.{digits_value-lt}
use Rattle.std.specs.Char.{digit_value}
use Rattle.std.specs.Str.Parse.{AllDigits}
use Rattle.listing_words.specs.Words.{plain_word}
use Rattle.listing_words.specs.Numbers.{SpellsNatural, SpellsWhole, SpellsBits}
use Rattle.listing_slots.specs.declared.slot.Mark.{Mark}
use Rattle.listing_slots.specs.Slots.{mark_text, SpellsNumber, SpellsInteger, IsSignedWithin}
use Rattle.listing_words.proofs.NaturalLaws.{natural_one}

pub plain_is : (a b : List ℕ) → plain_word a ≡ plain_word b → a ≡ b
plain_is a b e = cc

pub marked_none : (m : Mark) (most : ℕ) (before text : List ℕ) → mark_text m ≡ before → ((digits : List ℕ) (n : ℕ) → text ≡ before ++ digits → SpellsNatural digits n → n ≤ most → ⊥) → (n : ℕ) → SpellsNumber m most (plain_word text) n → ⊥
marked_none m most before text e refuse n s = refuse s.digits n (plain_is text (mark_text m ++ s.digits) s.joined ∙ rw e refl) s.spelled s.small

pub no_sign : (w ds : List ℕ) (n : ℕ) → w ≡ 45 ∷ ds → SpellsNatural w n → ⊥
no_sign w ds n e p = elim p [
  | inl a ↦ let b = subst (AllDigits 10) e a.0.1 in let c : digit_value 45 < 10 = b.0 in omega arith
  | inr a ↦ let i = a.1 in let k : ◌≡◌ {A = ℕ} 45 48 = cc in omega arith
]

minus_small : (most n : ℕ) → IsSignedWithin most (neg_ℤ (pos n)) → n ≤ most + 1
minus_small most zero h = omega arith
minus_small most (suc n) h = omega arith

-- after a minus
pub minus_none : (most : ℕ) (text ds : List ℕ) → text ≡ 45 ∷ ds → ((n : ℕ) → SpellsNatural ds n → n ≤ most + 1 → ⊥) → (z : ℤ) → SpellsInteger most (plain_word text) z → ⊥
minus_none most text ds e refuse z s =
    let i : s.digits ≡ text = sym (plain_is text s.digits s.joined) in
    elim s.spelled [
      | inl p ↦ no_sign text ds p.0 e (subst (λ (t : List ℕ). SpellsNatural t p.0) i p.1)
      | inr p ↦ let k : p.0 ≡ ds = (let a = p.2 in let b = e in cc) in
          refuse p.1 (subst (λ (t : List ℕ). SpellsNatural t p.1) k p.3) (minus_small most p.1 (subst (IsSignedWithin most) p.4 s.small))
    ]

-- without one
pub plain_none : (most : ℕ) (text : List ℕ) → ((ds : List ℕ) → text ≡ 45 ∷ ds → ⊥) → ((n : ℕ) → SpellsNatural text n → n ≤ most → ⊥) → (z : ℤ) → SpellsInteger most (plain_word text) z → ⊥
plain_none most text no_minus refuse z s =
    let i : s.digits ≡ text = sym (plain_is text s.digits s.joined) in
    elim s.spelled [
      | inl p ↦ refuse p.0 (subst (λ (t : List ℕ). SpellsNatural t p.0) i p.1) (subst (IsSignedWithin most) p.2 s.small)
      | inr p ↦ no_minus p.0 (sym i ∙ p.2)
    ]

pub whole_one : (w : List ℕ) (y z : ℤ) → SpellsWhole w y → SpellsWhole w z → y ≡ z
whole_one w y z p q = elim p [
  | inl a ↦ elim q [
    | inl b ↦ a.2 ∙ ap pos (natural_one w a.0 b.0 a.1 b.1) ∙ sym b.2
    | inr b ↦ absurd (no_sign w b.0 a.0 b.2 a.1)
  ]
  | inr a ↦ elim q [
    | inl b ↦ absurd (no_sign w a.0 b.0 a.2 b.1)
    | inr b ↦
        let e : a.0 ≡ b.0 = (let i = a.2 in let j = b.2 in cc) in
        let n = natural_one b.0 a.1 b.1 (subst (λ (t : List ℕ). SpellsNatural t a.1) e a.3) b.3 in
        let k = a.4 in let l = b.4 in cc
  ]
]

pub signed_minus_none : (most : ℕ) (text ds : List ℕ) (r : Option ℤ) → text ≡ 45 ∷ ds → IfNone r ((n : ℕ) → SpellsNatural ds n → n ≤ most + 1 → ⊥) → IfNone r ((z : ℤ) → SpellsInteger most (plain_word text) z → ⊥)
signed_minus_none most text ds None e h = minus_none most text ds e h
signed_minus_none most text ds (Some z) e h = tt

-- so many digits write a number below that power of 16
pub bits_fit : (count : ℕ) (w : List ℕ) (n : ℕ) → SpellsBits count w n → n < 16 ^ count
bits_fit count w n b = rw (b.number, ← b.many) (digits_value-lt 16 w b.digits)
