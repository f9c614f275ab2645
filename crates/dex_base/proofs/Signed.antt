-- Signed numbers: what a sequence stands for, and which sequence stands for a number.
use Rattle.std.proofs.Common.{◌≡◌, ℕ, zero, suc, ◌-◌, ◌*◌, ◌^◌, ◌<◌, ◌≤◌, cond, ltb, List, [], ◌∷◌, ◌++◌, length, take, get_or, refl, sym, ap, inl, inr, ◌⊎◌, ◌∙◌, arith, ℤ, pos, negsuc, ◌+ℤ◌, ◌-ℤ◌, ◌≤ℤ◌, ◌<ℤ◌}
use Rattle.std.proofs.lemmas.Int.{ints}
use Rattle.std.proofs.lemmas.List.{length-take-le, get_or-take}
use Rattle.dex_base.specs.Grammar.{NoneBegins, Appends, IsPrefixUnique}
use Rattle.dex_base.specs.Leb128.{IsSequence, low_first, signed_low_first, SpellsSigned, Shortest}
use Rattle.dex_base.specs.inner.Sequence.{IsWhole, IsSignedWidth, sequence_of}
use Rattle.dex_base.proofs.Numbers.{sequence_unique, whole_is, length-sequence_of, IsSequence-sequence_of, low_first-sequence_of, wider, some_byte}
use Rattle.dex_base.proofs.Sequences.{low_first_below}
use Rattle.std.proofs.lemmas.Bool.{cases_lt, cond_below, cond_above}
use Rattle.std.proofs.Math.Nat.{pow-suc}

pub signed_unique : IsPrefixUnique SpellsSigned
signed_unique a b x y v w p q e =
    let same = sequence_unique a b x y p.sequence q.sequence e in
    (same, p.number ∙ ap signed_low_first same ∙ sym q.number)

-- what the code computes
abbrev pub by_sign : ℕ → ℕ → ℕ → ℤ
by_sign last number scale = cond (ltb last 64) (pos number) (pos number -ℤ pos scale)

pub whole_signed : (bytes : List ℕ) (len number scale : ℕ) → IsWhole bytes len number scale → signed_low_first (take len bytes) ≡ by_sign (get_or bytes (len - 1) 0) number scale
whole_signed bytes len number scale w =
    let n : length (take len bytes) ≡ len = length-take-le len bytes w.inside in
    let l : len - 1 < len = let s = w.some in omega arith in
    let g : get_or (take len bytes) (length (take len bytes) - 1) 0 ≡ get_or bytes (len - 1) 0 = rw n (get_or-take len bytes (len - 1) 0 l) in
    rw (g, n, ← w.number_is, ← w.scale_is) refl

pub sleb_outside : (bytes : List ℕ) (len number scale : ℕ) (z : ℤ) → IsWhole bytes len number scale → z ≡ by_sign (get_or bytes (len - 1) 0) number scale
    → (pos 0 ≤ℤ (z +ℤ pos (2 ^ 31)) → z <ℤ pos (2 ^ 31) → ⊥) → NoneBegins SpellsSigned bytes
sleb_outside bytes len number scale z w e out front rest v parts s =
    let same = whole_is bytes front rest len number scale w parts s.sequence in
    let v_is : v ≡ z = s.number ∙ ap signed_low_first (sym same) ∙ whole_signed bytes len number scale w ∙ sym e in
    out (rw v_is at s.low) (rw v_is at s.high)

-- ---- writing

-- the sign is the top of the whole
sign_low : (bs : List ℕ) → IsSequence bs → get_or bs (length bs - 1) 0 < 64 → 2 * low_first bs < 128 ^ length bs
sign_low [] c h = absurd c
sign_low (b ∷ []) c h = omega (arith, h)
sign_low (b ∷ d ∷ bs) c h =
    let e : length (b ∷ d ∷ bs) - 1 ≡ suc (length bs) = omega arith in
    let f : length (d ∷ bs) - 1 ≡ length bs = omega arith in
    let g : get_or (d ∷ bs) (length (d ∷ bs) - 1) 0 < 64 = rw f (rw e at h) in
    rw pow-suc (omega (arith, sign_low (d ∷ bs) c.1 g))

sign_high : (bs : List ℕ) → IsSequence bs → 64 ≤ get_or bs (length bs - 1) 0 → 128 ^ length bs ≤ 2 * low_first bs
sign_high [] c h = absurd c
sign_high (b ∷ []) c h = omega (arith, h, c)
sign_high (b ∷ d ∷ bs) c h =
    let e : length (b ∷ d ∷ bs) - 1 ≡ suc (length bs) = omega arith in
    let f : length (d ∷ bs) - 1 ≡ length bs = omega arith in
    let g : 64 ≤ get_or (d ∷ bs) (length (d ∷ bs) - 1) 0 = rw f (rw e at h) in
    rw pow-suc (omega (arith, sign_high (d ∷ bs) c.1 g))

-- what the signed sum is, by the top bit of the whole
pub record IsSigned (bs : List ℕ) (z : ℤ) : Type 0 where
  pub positive : 2 * low_first bs < 128 ^ length bs → z ≡ pos (low_first bs)
  pub negative : 128 ^ length bs ≤ 2 * low_first bs → z +ℤ pos (128 ^ length bs) ≡ pos (low_first bs)

pub is_signed : (bs : List ℕ) → IsSequence bs → IsSigned bs (signed_low_first bs)
is_signed bs c =
    let last = get_or bs (length bs - 1) 0 in
    let low : ℤ = pos (low_first bs) in
    let less : ℤ = pos (low_first bs) -ℤ pos (128 ^ length bs) in
    elim (cases_lt last 64) [
      | inl lt ↦ let below = sign_low bs c lt in let e = cond_below last 64 low less lt in record { positive = λ h. sym e; negative = λ h. absurd (omega arith) }
      | inr le ↦ let above = sign_high bs c le in let e = cond_above last 64 low less less le refl in record { positive = λ h. absurd (omega arith); negative = λ h. rw (← e) (omega (arith, ints)) }
    ]

sign_cases : (z : ℤ) → (pos 0 ≤ℤ z) ⊎ (z <ℤ pos 0)
sign_cases (pos n) = inl (omega (arith, ints))
sign_cases (negsuc n) = inr (omega (arith, ints))

bits_fit : (k bits : ℕ) (z : ℤ) → IsSignedWidth k bits z → bits < 128 ^ k
bits_fit k bits z w = elim (sign_cases z) [
  | inl p ↦ let h = w.positive p in omega arith
  | inr n ↦ let h = w.negative n in omega arith
]

signed_value : (k bits : ℕ) (z y : ℤ) (bs : List ℕ) → IsSignedWidth k bits z → length bs ≡ k → low_first bs ≡ bits → IsSigned bs y → z ≡ y
signed_value k bits z y bs w n l s = elim (sign_cases z) [
  | inl p ↦
      let h = w.positive p in
      let e = s.positive (rw (n, l) h.1) in
      sym h.0 ∙ ap pos (sym l) ∙ sym e
  | inr p ↦
      let h = w.negative p in
      let e = s.negative (rw (n, l) h.2) in
      let f : y +ℤ pos (128 ^ k) ≡ pos bits = rw (n, l) at e in
      omega (arith, ints, h.0, f)
]

least_signed : (k bits : ℕ) (z : ℤ) → IsSignedWidth k bits z → (other : List ℕ) → SpellsSigned other z → k ≤ length other
least_signed k bits z w other s =
    let some = some_byte other s.sequence in
    let sum = is_signed other s.sequence in
    let below = low_first_below other in
    elim (cases_lt 1 k) [
      | inr le ↦ omega arith
      | inl lt ↦
          let h = w.least lt in
          let q : 128 ^ (k - 1) < 128 ^ length other =
          elim (cases_lt (2 * low_first other) (128 ^ length other)) [
            | inl p ↦ let e : z ≡ pos (low_first other) = s.number ∙ sum.positive p in elim h [ inl u ↦ omega (arith, ints, e, u) | inr u ↦ absurd (omega (arith, ints, e, u)) ]
            | inr p ↦ let e : z +ℤ pos (128 ^ length other) ≡ pos (low_first other) = rw s.number (sum.negative p) in elim h [ inl u ↦ absurd (omega (arith, ints, e, u)) | inr u ↦ omega (arith, ints, e, u) ]
          ]
          in
          omega (arith, wider (length other) (k - 1) (128 ^ (k - 1)) q (omega arith))
    ]

pub signed_put : (old new : List ℕ) (k bits : ℕ) (z : ℤ) → IsSignedWidth k bits z → pos 0 ≤ℤ (z +ℤ pos (2 ^ 31)) → z <ℤ pos (2 ^ 31) → new ≡ old ++ sequence_of k bits → Appends (Shortest SpellsSigned) old new z
signed_put old new zero bits z w low high e = absurd (omega (arith, w.some))
signed_put old new (suc k) bits z w low high e =
    let fits = bits_fit (suc k) bits z w in
    let n = length-sequence_of (suc k) bits in
    let sequence = IsSequence-sequence_of k bits fits in
    record {
      bytes = sequence_of (suc k) bits;
      joined = e;
      spelled = record {
        spelled = record {
          short = rw n w.short;
          sequence = sequence;
          number = signed_value (suc k) bits z (signed_low_first (sequence_of (suc k) bits)) (sequence_of (suc k) bits) w n (low_first-sequence_of k bits fits) (is_signed (sequence_of (suc k) bits) sequence);
          low = low;
          high = high;
        };
        least = λ other s. rw n (least_signed (suc k) bits z w other s);
      };
    }
