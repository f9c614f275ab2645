-- The bytes of one unit, seen as numbers.
use Rattle.std.proofs.Common.{◌≡◌, ℕ, suc, ◌+◌, ◌/◌, ◌%◌, ◌<◌, ◌≤◌, inl, inr, List, [], ◌∷◌, ◌++◌, length, take, get_or, refl, sym, ap, subst, ◌∙◌, arith}
use Rattle.std.proofs.lemmas.Bool.{cases_lt, lt-ltb, le-ltb, ne_eqb}
use Rattle.std.proofs.lemmas.List.{length-append, length-take-le}
use Rattle.dex_base.specs.Grammar.{Begins, NoneBegins, Appends, IsPrefixUnique, Each, Many}
use Rattle.dex_base.specs.Mutf8.{unit_bytes, SpellsUnit}
use Rattle.dex_base.specs.inner.Names.{HasUnit}

-- ---- the bytes by the range of the unit

pub bytes_one : (u : ℕ) → 0 < u → u < 128 → unit_bytes u ≡ u ∷ []
bytes_one u p q = rw (ne_eqb u 0 (λ e. absurd (omega arith)), lt-ltb u 128 q) refl

pub bytes_zero : (u : ℕ) → u ≡ 0 → unit_bytes u ≡ (192 + u / 64) ∷ (128 + u % 64) ∷ []
bytes_zero u e = rw e refl

pub bytes_two : (u : ℕ) → 128 ≤ u → u < 2048 → unit_bytes u ≡ (192 + u / 64) ∷ (128 + u % 64) ∷ []
bytes_two u p q = rw (ne_eqb u 0 (λ e. absurd (omega arith)), le-ltb u 128 p, lt-ltb u 2048 q) refl

pub bytes_three : (u : ℕ) → 2048 ≤ u → unit_bytes u ≡ (224 + u / 4096) ∷ (128 + u / 64 % 64) ∷ (128 + u % 64) ∷ []
bytes_three u p = rw (ne_eqb u 0 (λ e. absurd (omega arith)), le-ltb u 128 (omega arith), le-ltb u 2048 p) refl

-- ---- from the numbers to the bytes

pub take_one : (bytes : List ℕ) → 1 ≤ length bytes → take 1 bytes ≡ get_or bytes 0 0 ∷ []
take_one [] h = absurd (omega (arith, h))
take_one (a ∷ bytes) h = refl

pub take_two : (bytes : List ℕ) → 2 ≤ length bytes → take 2 bytes ≡ get_or bytes 0 0 ∷ get_or bytes 1 0 ∷ []
take_two (a ∷ b ∷ bytes) h = refl
take_two _ h = absurd (omega (arith, h))

take_three : (bytes : List ℕ) → 3 ≤ length bytes → take 3 bytes ≡ get_or bytes 0 0 ∷ get_or bytes 1 0 ∷ get_or bytes 2 0 ∷ []
take_three (a ∷ b ∷ c ∷ bytes) h = refl
take_three _ h = absurd (omega (arith, h))

pub unit_found : (bytes : List ℕ) (u len : ℕ) → HasUnit bytes u len → Begins SpellsUnit bytes u len
unit_found bytes u len h = elim h [
  | inl p ↦ record {
    inside = omega arith;
    spelled = (omega arith, rw p.2 (take_one bytes p.3 ∙ ap (λ a. a ∷ []) p.4 ∙ sym (bytes_one u p.0 p.1)));
  }
  | inr (inl p) ↦
      let two : unit_bytes u ≡ (192 + u / 64) ∷ (128 + u % 64) ∷ [] = elim p.0 [ inl e ↦ bytes_zero u e | inr l ↦ bytes_two u l p.1 ] in
      record {
        inside = omega arith;
        spelled = (omega arith, rw p.2 (take_two bytes p.3 ∙ rw (p.4, p.5) (sym two)));
      }
  | inr (inr p) ↦ record {
    inside = omega arith;
    spelled = (omega arith, rw p.2 (take_three bytes p.3 ∙ rw (p.4, p.5, p.6) (sym (bytes_three u p.0))));
  }
]

-- ---- from the bytes to the numbers

pub unit_front : (u : ℕ) (front rest : List ℕ) → SpellsUnit front u → HasUnit (front ++ rest) u (length front)
unit_front u front rest s = elim (cases_lt u 128) [
  | inl l ↦ elim (cases_lt 0 u) [
    | inl p ↦ let e = s.1 ∙ bytes_one u p l in rw e (inl (p, l, refl, omega arith, refl))
    | inr p ↦ let e = s.1 ∙ bytes_zero u (omega arith) in rw e (inr (inl (inl (omega arith), omega arith, refl, omega arith, refl, refl)))
  ]
  | inr l ↦ elim (cases_lt u 2048) [
    | inl p ↦ let e = s.1 ∙ bytes_two u l p in rw e (inr (inl (inr l, p, refl, omega arith, refl, refl)))
    | inr p ↦ let e = s.1 ∙ bytes_three u p in rw e (inr (inr (p, s.0, refl, omega arith, refl, refl, refl)))
  ]
]

pub unit_none : (bytes : List ℕ) → ((u len : ℕ) → HasUnit bytes u len → ⊥) → NoneBegins SpellsUnit bytes
unit_none bytes none front rest u e s = none u (length front) (rw e (unit_front u front rest s))

same_unit : (bytes : List ℕ) (u w m n : ℕ) → HasUnit bytes u m → HasUnit bytes w n → u ≡ w
same_unit bytes u w m n h k = elim h [
  | inl p ↦ elim k [ inl q ↦ omega arith | inr (inl q) ↦ absurd (omega arith) | inr (inr q) ↦ absurd (omega arith) ]
  | inr (inl p) ↦ elim k [ inl q ↦ absurd (omega arith) | inr (inl q) ↦ omega arith | inr (inr q) ↦ absurd (omega arith) ]
  | inr (inr p) ↦ elim k [ inl q ↦ absurd (omega arith) | inr (inl q) ↦ absurd (omega arith) | inr (inr q) ↦ omega arith ]
]

pub unit_unique : IsPrefixUnique SpellsUnit
unit_unique a b x y u w p q e =
    let s = same_unit (a ++ x) u w (length a) (length b) (unit_front u a x p) (rw e (unit_front w b y q)) in
    (p.1 ∙ ap unit_bytes s ∙ sym q.1, s)

unit_long : (u : ℕ) (front : List ℕ) → SpellsUnit front u → 1 ≤ length front
unit_long u front s = elim (unit_front u front [] s) [ inl p ↦ omega arith | inr (inl p) ↦ omega arith | inr (inr p) ↦ omega arith ]

-- each unit takes a byte at least
units_long : (us bytes : List ℕ) → Each SpellsUnit bytes us → length us ≤ length bytes
units_long [] bytes e = omega arith
units_long (u ∷ us) bytes e = omega (arith, unit_long u e.0 e.3, units_long us e.1 e.4, ap length e.2, length-append e.0 e.1)

pub units_none : (n : ℕ) (bytes : List ℕ) → length bytes < n → NoneBegins (Many SpellsUnit n) bytes
units_none n bytes h front rest us e s = absurd (omega (arith, s.0, units_long us front s.1, ap length e, length-append front rest))

single_each : (us : List ℕ) → ((k : ℕ) → k < length us → (0 < get_or us k 0) × (get_or us k 0 < 128)) → Each SpellsUnit us us
single_each [] p = refl
single_each (u ∷ us) p =
    let one = p 0 (omega arith) in
    (u ∷ [], us, refl, (omega (arith, one.1), sym (bytes_one u one.0 one.1)), single_each us (λ k h. p (suc k) (omega (arith, h))))

-- units of a byte each
pub single_found : (bytes front units : List ℕ) (n : ℕ) → n ≤ length bytes → front ≡ take n bytes → units ≡ front
    → ((k : ℕ) → k < length front → (0 < get_or front k 0) × (get_or front k 0 < 128)) → Begins (Many SpellsUnit n) bytes units (length front)
single_found bytes front units n h f u p =
    let same : length front ≡ n = ap length f ∙ length-take-le n bytes h in
    record {
      inside = rw (same) h;
      spelled = rw (u, same) (refl, subst (λ (l : List ℕ). Each SpellsUnit l front) f (single_each front p));
    }

pub unit_appends : (old new : List ℕ) (u : ℕ) → u < 65536 → new ≡ old ++ unit_bytes u → Appends SpellsUnit old new u
unit_appends old new u h e = record { bytes = unit_bytes u; joined = e; spelled = (h, refl) }
