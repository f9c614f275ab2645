-- Numbers and names that are written are read again.
use Rattle.std.proofs.Common.{◌≡◌, ◌≢◌, ℕ, zero, suc, ◌+◌, ◌-◌, ◌*◌, ◌/◌, ◌%◌, ◌^◌, ◌<◌, ◌≤◌, inl, inr, ◌⊎◌, List, [], ◌∷◌, ◌++◌, length, refl, sym, ◌∙◌, append_assoc, arith, pow-suc}
use Rattle.std.proofs.lemmas.Bool.{cases_lt, lt-ltb, le-ltb, ne_eqb, cases_eq}
use Rattle.std.proofs.lemmas.Int.Digits.{digits_value_push, digits_push}
use Rattle.std.proofs.lemmas.List.{length-append}
use Rattle.std.specs.List.{AllByRecursion}
use Rattle.std.specs.Char.{digit_value}
use Rattle.std.specs.Str.Parse.{AllDigits, digits_value}
use Rattle.listing_words.specs.Texts.{hex, glyph, escape_text}
use Rattle.listing_words.specs.Numbers.{SpellsNatural, SpellsBits, SpellsElements}
use Rattle.listing_words.specs.Names.{TakesNameUnit, SpellsUnits}
use Rattle.listing_words.specs.Words.{IsGraphic, plain_word}
use Rattle.listing_words.specs.inner.Words.{IsWritable}
use Rattle.listing_words.specs.Written.{hex_digits, hex_width, flags_text, elements_text, name_unit, name_text}
use Rattle.listing_words.proofs.TextLaws.{hex_glyph, takes_hex}
use Rattle.dex_base.proofs.ListFacts.{all_append}

-- ---- hexadecimal digits

glyph_value : (d : ℕ) → d < 16 → digit_value (glyph d) ≡ d
unfolding hex
glyph_value d h = hex_glyph d h

pub hex_length : (width n : ℕ) → length (hex_digits width n) ≡ width
hex_length zero n = refl
hex_length (suc width) n = length-append (hex_digits width (n / 16)) (glyph (n % 16) ∷ []) ∙ rw (hex_length width (n / 16)) (omega arith)

hex_all : (width n : ℕ) → AllDigits 16 (hex_digits width n)
hex_all zero n = tt
hex_all (suc width) n = digits_push 16 (hex_digits width (n / 16)) (glyph (n % 16)) (hex_all width (n / 16)) (rw (glyph_value (n % 16) (omega arith)) (omega arith))

power_step : (width n : ℕ) → n < 16 ^ suc width → n / 16 < 16 ^ width
power_step width n h = let e : 16 ^ suc width ≡ 16 ^ width * 16 = pow-suc 16 width in omega (arith, e)

hex_value : (width n : ℕ) → n < 16 ^ width → digits_value 16 (hex_digits width n) ≡ n
hex_value zero n h = (let k : n < 1 = h in omega arith)
hex_value (suc width) n h =
    let a = digits_value_push 16 (hex_digits width (n / 16)) (glyph (n % 16)) in
    let b = hex_value width (n / 16) (power_step width n h) in
    let c = glyph_value (n % 16) (omega arith) in
    a ∙ rw (b, c) (omega arith)

pub bits_again : (width n : ℕ) → n < 16 ^ width → SpellsBits width (hex_digits width n) n
bits_again width n h = record { many = hex_length width n; digits = hex_all width n; number = sym (hex_value width n h) }

-- a digit more
pub hex_more : (old front : List ℕ) (width n digit : ℕ) → width ≢ 0 → front ≡ old ++ hex_digits (width - 1) (n / 16) → digit ≡ glyph (n % 16) → front ++ digit ∷ [] ≡ old ++ hex_digits width n
hex_more old front zero n digit h e f = absurd (h refl)
hex_more old front (suc width) n digit h e f =
    let k : suc width - 1 ≡ width = omega arith in
    let g = rw k at e in
    rw (g, f) (append_assoc old (hex_digits width (n / 16)) (glyph (n % 16) ∷ []))

-- flags have some digits, and enough of them
pub record HasRoom (width n : ℕ) : Type 0 where
  pub some : 0 < width
  pub room : n < 16 ^ width

width_room : (n : ℕ) → n < 2 ^ 32 → HasRoom (hex_width n) n
width_room n h = elim (cases_lt n 16) [
  | inl l ↦ rw (lt-ltb n 16 l) (record { some = omega arith; room = l })
  | inr a ↦ elim (cases_lt n 256) [
    | inl l ↦ rw (le-ltb n 16 a, lt-ltb n 256 l) (record { some = omega arith; room = l })
    | inr b ↦ elim (cases_lt n 4096) [
      | inl l ↦ rw (le-ltb n 16 a, le-ltb n 256 b, lt-ltb n 4096 l) (record { some = omega arith; room = l })
      | inr c ↦ elim (cases_lt n 65536) [
        | inl l ↦ rw (le-ltb n 16 a, le-ltb n 256 b, le-ltb n 4096 c, lt-ltb n 65536 l) (record { some = omega arith; room = l })
        | inr d ↦ elim (cases_lt n 1048576) [
          | inl l ↦ rw (le-ltb n 16 a, le-ltb n 256 b, le-ltb n 4096 c, le-ltb n 65536 d, lt-ltb n 1048576 l) (record { some = omega arith; room = l })
          | inr e ↦ elim (cases_lt n 16777216) [
            | inl l ↦ rw (le-ltb n 16 a, le-ltb n 256 b, le-ltb n 4096 c, le-ltb n 65536 d, le-ltb n 1048576 e, lt-ltb n 16777216 l) (record { some = omega arith; room = l })
            | inr f ↦ elim (cases_lt n 268435456) [
              | inl l ↦ rw (le-ltb n 16 a, le-ltb n 256 b, le-ltb n 4096 c, le-ltb n 65536 d, le-ltb n 1048576 e, le-ltb n 16777216 f, lt-ltb n 268435456 l) (record { some = omega arith; room = l })
              | inr g ↦ rw (le-ltb n 16 a, le-ltb n 256 b, le-ltb n 4096 c, le-ltb n 65536 d, le-ltb n 1048576 e, le-ltb n 16777216 f, le-ltb n 268435456 g) (record { some = omega arith; room = h })
            ]
          ]
        ]
      ]
    ]
  ]
]

pub flags_again : (n : ℕ) → n < 2 ^ 32 → SpellsNatural (flags_text n) n
flags_again n h =
    let r = width_room n h in
    inr (hex_digits (hex_width n) n, refl, (let l = hex_length (hex_width n) n in let s = r.some in omega arith, hex_all (hex_width n) n), sym (hex_value (hex_width n) n r.room))

pub elements_again : (bs : List ℕ) → AllByRecursion (λ b. b < 256) bs → SpellsElements (elements_text bs) bs
elements_again [] h = refl
elements_again (b ∷ bs) h =
    let s = h.0 in
    let x = glyph_value (b / 16 % 16) (omega arith) in
    let y = glyph_value (b % 16) (omega arith) in
    let e : (b / 16 % 16) * 16 + b % 16 ≡ b = omega arith in
    (rw x (omega arith), rw y (omega arith), (bs, elements_again bs h.1, rw (x, y, e) refl))

-- ---- names

pub name_plain : (u : ℕ) → 32 < u → u < 127 → u ≢ 34 → u ≢ 92 → name_unit u ≡ u ∷ []
name_plain u a b c d = rw (lt-ltb 32 u a, lt-ltb u 127 b, ne_eqb u 34 c, ne_eqb u 92 d) refl

name_low : (u : ℕ) → u ≤ 32 → name_unit u ≡ escape_text u
name_low u h = rw (le-ltb 32 u h) refl

name_high : (u : ℕ) → 32 < u → 127 ≤ u → name_unit u ≡ escape_text u
name_high u a h = rw (lt-ltb 32 u a, le-ltb u 127 h) refl

-- a unit stands for itself or is escaped
pub name_cases : (u : ℕ) → ((u ≢ 34) × (u ≢ 92) × (32 < u) × (u < 127) × (name_unit u ≡ u ∷ [])) ⊎ (name_unit u ≡ escape_text u)
name_cases u = elim (cases_eq u 34) [
  | inl e ↦ inr (rw e refl)
  | inr a ↦ elim (cases_eq u 92) [
    | inl e ↦ inr (rw e refl)
    | inr b ↦ elim (cases_lt 32 u) [
      | inl c ↦ elim (cases_lt u 127) [
        | inl d ↦ inl (a, b, c, d, name_plain u c d a b)
        | inr d ↦ inr (name_high u c d)
      ]
      | inr c ↦ inr (name_low u c)
    ]
  ]
]

name_takes : (u : ℕ) (rest : List ℕ) → u < 65536 → TakesNameUnit (name_unit u ++ rest) u rest
name_takes u rest h = elim (name_cases u) [
  | inl p ↦ rw p.4 (inl (p.1, refl))
  | inr e ↦ rw e (inr (takes_hex u rest h))
]

pub name_again : (us : List ℕ) → AllByRecursion (λ u. u < 2 ^ 16) us → SpellsUnits (name_text us) us
name_again [] h = refl
name_again (u ∷ us) h = (name_text us, name_takes u (name_text us) h.0, name_again us h.1)

-- ---- a name is a word

graphic_glyph : (d : ℕ) → d < 16 → IsGraphic (glyph d)
graphic_glyph d h = elim (cases_lt d 10) [
  | inl l ↦ rw (lt-ltb d 10 l) (omega arith, omega arith)
  | inr l ↦ rw (le-ltb d 10 l) (omega arith, omega arith)
]

escape_graphic : (u : ℕ) → AllByRecursion IsGraphic (escape_text u)
escape_graphic u =
    ((omega arith, omega arith), ((omega arith, omega arith), (graphic_glyph (u / 4096 % 16) (omega arith), (graphic_glyph (u / 256 % 16) (omega arith), (graphic_glyph (u / 16 % 16) (omega arith), (graphic_glyph (u % 16) (omega arith), tt))))))

unit_graphic : (u : ℕ) → AllByRecursion IsGraphic (name_unit u)
unit_graphic u = elim (name_cases u) [
  | inl p ↦ rw p.4 ((let h = p.2 in omega arith, p.3), tt)
  | inr e ↦ rw e (escape_graphic u)
]

pub name_graphic : (us : List ℕ) → AllByRecursion IsGraphic (name_text us)
name_graphic [] = tt
name_graphic (u ∷ us) = all_append IsGraphic (name_unit u) (name_text us) (unit_graphic u) (name_graphic us)

pub hex_graphic : (width n : ℕ) → AllByRecursion IsGraphic (hex_digits width n)
hex_graphic zero n = tt
hex_graphic (suc width) n = all_append IsGraphic (hex_digits width (n / 16)) (glyph (n % 16) ∷ []) (hex_graphic width (n / 16)) (graphic_glyph (n % 16) (omega arith), tt)

-- a name that isn't empty can be written
pub name_writable : (us : List ℕ) → 0 < length us → IsWritable (plain_word (name_text us))
name_writable [] h = absurd (omega arith)
name_writable (u ∷ us) h = elim (name_cases u) [
  | inl p ↦ let g = name_graphic (u ∷ us) in let n = p.0 in (rw p.4 (omega arith), rw p.4 n, g)
  | inr e ↦ let g = name_graphic (u ∷ us) in (rw e (omega arith), rw e (λ k. omega arith), g)
]
