-- Texts in quotes: each is read in one way, and what is written is read again.
use Rattle.std.proofs.Common.{◌≡◌, ◌≢◌, ℕ, ◌/◌, ◌%◌, ◌<◌, ◌≤◌, inl, inr, ◌⊎◌, List, [], ◌∷◌, ◌++◌, refl, sym, subst, ◌∙◌, append_assoc, arith}
use Rattle.std.proofs.lemmas.Bool.{cases_lt, lt-ltb, le-ltb, ne_eqb, cases_eq}
use Rattle.std.proofs.lemmas.Bool.Decides.{nat_tests}
use Rattle.std.specs.List.{flat_map, AllByRecursion}
use Rattle.listing_words.specs.Taking.{EachTaken}
use Rattle.listing_words.specs.inner.Taking.{NoneAt}
use Rattle.listing_words.specs.Texts.{IsUnescaped, hex, TakesHex, TakesUnit, TakesUnits, glyph, unit_text}
use Rattle.listing_words.specs.inner.Texts.{HasQuotedUnit}
use Rattle.listing_words.proofs.TakingLaws.{IsDecided, Each-one}

pub takes_has : (text : List ℕ) (u : ℕ) (rest : List ℕ) → TakesUnit text u rest → (len : ℕ) × HasQuotedUnit text u len
takes_has text u rest h = elim h [
  | inl p ↦ (1, rw p.1 (inl (p.0, refl, omega arith, refl)))
  | inr (inl p) ↦ (2, rw p.1 (inr (inl (p.0, refl, omega arith, refl, refl))))
  | inr (inr p) ↦ (6, rw p.joined (inr (inr (refl, (omega arith, refl, refl, p.digits.0, p.digits.1, p.digits.2, p.digits.3, p.number)))))
]

pub unit_none : (text : List ℕ) → ((u len : ℕ) → HasQuotedUnit text u len → ⊥) → NoneAt TakesUnit text
unit_none text none u rest h = let x = takes_has text u rest h in none u x.0 x.1

pub unit_decided : IsDecided TakesUnit
unit_decided text v w r s p q = elim p [
  | inl a ↦ elim q [
    | inl b ↦ let i = a.1 in let j = b.1 in (cc, cc)
    | inr (inl b) ↦ let i = a.1 in let j = b.1 in let k : v ≡ 92 = cc in absurd (a.0.no_escape k)
    | inr (inr b) ↦ let i = a.1 in let j = b.joined in let k : v ≡ 92 = cc in absurd (a.0.no_escape k)
  ]
  | inr (inl a) ↦ elim q [
    | inl b ↦ let i = a.1 in let j = b.1 in let k : w ≡ 92 = cc in absurd (b.0.no_escape k)
    | inr (inl b) ↦ let i = a.1 in let j = b.1 in (cc, cc)
    | inr (inr b) ↦ let i = a.1 in let j = b.joined in let k : v ≡ 117 = cc in elim a.0 [ inl e ↦ absurd (omega arith) | inr e ↦ absurd (omega arith) ]
  ]
  | inr (inr a) ↦ elim q [
    | inl b ↦ let i = a.joined in let j = b.1 in let k : w ≡ 92 = cc in absurd (b.0.no_escape k)
    | inr (inl b) ↦ let i = a.joined in let j = b.1 in let k : w ≡ 117 = cc in elim b.0 [ inl e ↦ absurd (omega arith) | inr e ↦ absurd (omega arith) ]
    | inr (inr b) ↦ let i = a.joined in let j = b.joined in let k = a.number in let l = b.number in
        let e1 : a.a ≡ b.a = cc in let e2 : a.b ≡ b.b = cc in let e3 : a.c ≡ b.c = cc in let e4 : a.d ≡ b.d = cc in
        (k ∙ rw (e1, e2, e3, e4) (sym l), cc)
  ]
]

pub quote_stops : (rest : List ℕ) → NoneAt TakesUnit (34 ∷ rest)
quote_stops rest u more h = elim h [
  | inl p ↦ let e = p.1 in let k : u ≡ 34 = cc in p.0.no_quote k
  | inr (inl p) ↦ let e = p.1 in let k : ◌≡◌ {A = ℕ} 34 92 = cc in omega arith
  | inr (inr p) ↦ let e = p.joined in let k : ◌≡◌ {A = ℕ} 34 92 = cc in omega arith
]

quote_at : (t r : List ℕ) → t ≡ 34 ∷ r → NoneAt TakesUnit t
quote_at t r e u more h = quote_stops r u more (subst (λ (s : List ℕ). TakesUnit s u more) e h)

pub units_decided : IsDecided TakesUnits
units_decided text v w r s p q =
    let one = Each-one TakesUnit unit_decided v w text p.end q.end p.units q.units (quote_at p.end r p.quote) (quote_at q.end s q.quote) in
    let i = one.1 in let j = p.quote in let k = q.quote in
    (one.0, cc)

-- the units end where a quote doesn't stand
pub units_none : (text end : List ℕ) (us : List ℕ) → EachTaken TakesUnit text us end → NoneAt TakesUnit end → ((rest : List ℕ) → end ≡ 34 ∷ rest → ⊥) → NoneAt TakesUnits text
units_none text end us h stop refuse ws rest t =
    let one = Each-one TakesUnit unit_decided us ws text end t.end h t.units stop (quote_at t.end rest t.quote) in
    refuse rest (one.1 ∙ t.quote)

-- ---- what is written is read again

pub hex_glyph : (d : ℕ) → d < 16 → hex (glyph d) ≡ d
unfolding hex
hex_glyph d h = grind (arith, nat_tests)

text_hex : (u : ℕ) → (u ≢ 34) → (u ≢ 92) → ((u < 32) ⊎ (127 ≤ u)) → unit_text u ≡ 92 ∷ 117 ∷ glyph (u / 4096 % 16) ∷ glyph (u / 256 % 16) ∷ glyph (u / 16 % 16) ∷ glyph (u % 16) ∷ []
text_hex u a b h = elim h [
  | inl l ↦ rw (ne_eqb u 34 a, ne_eqb u 92 b, le-ltb 31 u (omega arith)) refl
  | inr l ↦ rw (ne_eqb u 34 a, ne_eqb u 92 b, lt-ltb 31 u (omega arith), le-ltb u 127 l) refl
]

pub text_plain : (u : ℕ) → IsUnescaped u → unit_text u ≡ u ∷ []
text_plain u p = rw (ne_eqb u 34 p.no_quote, ne_eqb u 92 p.no_escape, lt-ltb 31 u (omega (arith, p.low)), lt-ltb u 127 p.high) refl

pub takes_hex : (u : ℕ) (rest : List ℕ) → u < 65536 → TakesHex (92 ∷ 117 ∷ glyph (u / 4096 % 16) ∷ glyph (u / 256 % 16) ∷ glyph (u / 16 % 16) ∷ glyph (u % 16) ∷ rest) u rest
takes_hex u rest h =
    let a = hex_glyph (u / 4096 % 16) (omega arith) in
    let b = hex_glyph (u / 256 % 16) (omega arith) in
    let c = hex_glyph (u / 16 % 16) (omega arith) in
    let d = hex_glyph (u % 16) (omega arith) in
    record {
      a = _;
      b = _;
      c = _;
      d = _;
      joined = refl;
      digits = rw (a, b, c, d) (omega arith, omega arith, omega arith, omega arith);
      number = rw (a, b, c, d) (omega arith);
    }

pub unit_takes : (u : ℕ) (rest : List ℕ) → u < 65536 → TakesUnit (unit_text u ++ rest) u rest
unit_takes u rest h = elim (cases_eq u 34) [
  | inl e ↦ rw e (inr (inl (inl refl, refl)))
  | inr a ↦ elim (cases_eq u 92) [
    | inl e ↦ rw e (inr (inl (inr refl, refl)))
    | inr b ↦ elim (cases_lt u 32) [
      | inl l ↦ rw (text_hex u a b (inl l)) (inr (inr (takes_hex u rest h)))
      | inr l ↦ elim (cases_lt u 127) [
        | inl k ↦ let p : IsUnescaped u = record { low = l; high = k; no_quote = a; no_escape = b } in rw (text_plain u p) (inl (p, refl))
        | inr k ↦ rw (text_hex u a b (inr k)) (inr (inr (takes_hex u rest h)))
      ]
    ]
  ]
]

-- the units of a text, written one after the other
pub units_take : (us rest : List ℕ) → AllByRecursion (λ u. u < 65536) us → EachTaken TakesUnit (flat_map unit_text us ++ rest) us rest
units_take [] rest h = refl
units_take (u ∷ us) rest h =
    (flat_map unit_text us ++ rest, subst (λ (t : List ℕ). TakesUnit t u (flat_map unit_text us ++ rest)) (sym (append_assoc (unit_text u) (flat_map unit_text us) rest)) (unit_takes u (flat_map unit_text us ++ rest) h.0), units_take us rest h.1)

pub text_takes : (us rest : List ℕ) → AllByRecursion (λ u. u < 65536) us → TakesUnits (flat_map unit_text us ++ (34 ∷ rest)) us rest
text_takes us rest h = record { end = 34 ∷ rest; units = units_take us (34 ∷ rest) h; quote = refl }
