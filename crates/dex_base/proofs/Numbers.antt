-- What a sequence of bytes says of the numbers at the front.
use Rattle.std.proofs.Common.{◌≡◌, ℕ, zero, suc, ◌/◌, ◌^◌, ◌<◌, ◌≤◌, List, [], ◌∷◌, ◌++◌, length, take, drop, refl, sym, ap, subst, inl, inr, ◌-◌, ◌∙◌, arith}
use Rattle.std.proofs.lemmas.List.{take-append-drop}
use Rattle.std.proofs.lemmas.Nat.{div_below}
use Rattle.std.proofs.lemmas.Bool.{cases_lt}
use Rattle.std.proofs.Math.Nat.{pow-suc, pow-le-pow_right}
use Rattle.dex_base.specs.Grammar.{NoneBegins, Appends, IsPrefixUnique}
use Rattle.dex_base.proofs.Sequences.{low_first_below}
use Rattle.dex_base.specs.Leb128.{IsSequence, low_first, Spells, Shortest}
use Rattle.dex_base.specs.inner.Sequence.{IsWhole, IsWidth, sequence_of}

pub sequence_unique : (a b x y : List ℕ) → IsSequence a → IsSequence b → a ++ x ≡ b ++ y → a ≡ b
sequence_unique [] b x y p q e = absurd p
sequence_unique (a ∷ at) [] x y p q e = absurd q
sequence_unique (a ∷ []) (b ∷ []) x y p q e = let h : a ≡ b = cc in cc
sequence_unique (a ∷ []) (b ∷ c ∷ bs) x y p q e = let h : a ≡ b = cc in absurd (omega (arith, q.0))
sequence_unique (a ∷ c ∷ at) (b ∷ []) x y p q e = let h : a ≡ b = cc in absurd (omega (arith, p.0))
sequence_unique (a ∷ c ∷ at) (b ∷ d ∷ bs) x y p q e =
    let h : a ≡ b = cc in
    let t : (c ∷ at) ++ x ≡ (d ∷ bs) ++ y = cc in
    let r = sequence_unique (c ∷ at) (d ∷ bs) x y p.1 q.1 t in
    cc

pub spells_unique : IsPrefixUnique Spells
spells_unique a b x y v w p q e =
    let same = sequence_unique a b x y p.sequence q.sequence e in
    (same, p.number ∙ ap low_first same ∙ sym q.number)

-- the sequence at the front is the front that spells
pub whole_is : (bytes front rest : List ℕ) (len number scale : ℕ) → IsWhole bytes len number scale → bytes ≡ front ++ rest → IsSequence front → take len bytes ≡ front
whole_is bytes front rest len number scale w e c =
    sequence_unique (take len bytes) front (drop len bytes) rest w.sequence c (take-append-drop len bytes ∙ e)

pub uleb_large : (bytes : List ℕ) (len number scale : ℕ) → IsWhole bytes len number scale → 2 ^ 32 ≤ number → NoneBegins Spells bytes
uleb_large bytes len number scale w h front rest v e s =
    let same = whole_is bytes front rest len number scale w e s.sequence in
    absurd (omega (arith, s.number, s.range, w.number_is, ap low_first same))

-- ---- writing

pub length-sequence_of : (k n : ℕ) → length (sequence_of k n) ≡ k
length-sequence_of zero n = refl
length-sequence_of (suc zero) n = refl
length-sequence_of (suc (suc k)) n = ap suc (length-sequence_of (suc k) (n / 128))

below_next : (k n : ℕ) → n < 128 ^ suc k → n / 128 < 128 ^ k
below_next k n h = div_below n 128 (128 ^ k) (omega arith) (rw (← pow-suc) h)

pub IsSequence-sequence_of : (k n : ℕ) → n < 128 ^ suc k → IsSequence (sequence_of (suc k) n)
IsSequence-sequence_of zero n h = h
IsSequence-sequence_of (suc zero) n h = (omega arith, below_next 1 n h)
IsSequence-sequence_of (suc (suc k)) n h = (omega arith, IsSequence-sequence_of (suc k) (n / 128) (below_next (suc (suc k)) n h))

pub low_first-sequence_of : (k n : ℕ) → n < 128 ^ suc k → low_first (sequence_of (suc k) n) ≡ n
low_first-sequence_of zero n h = omega (arith, h)
low_first-sequence_of (suc k) n h = omega (arith, low_first-sequence_of k (n / 128) (below_next (suc k) n h))

pub wider : (j k n : ℕ) → n < 128 ^ j → 128 ^ k ≤ n → k < j
wider j k n h l = elim (cases_lt k j) [
  | inl lt ↦ lt
  | inr le ↦ let p : 0 < 128 = omega arith in let q : 128 ^ j ≤ 128 ^ k = pow-le-pow_right p le in absurd (omega arith)
]

pub some_byte : (bytes : List ℕ) → IsSequence bytes → 0 < length bytes
some_byte [] c = absurd c
some_byte (b ∷ bs) c = omega arith

spelled_sequence : (k n : ℕ) → suc k ≤ 5 → n < 128 ^ suc k → n < 2 ^ 32 → Spells (sequence_of (suc k) n) n
spelled_sequence k n short fits range = record {
  short = rw (length-sequence_of (suc k) n) short;
  sequence = IsSequence-sequence_of k n fits;
  number = sym (low_first-sequence_of k n fits);
  range = range;
}

least_sequence : (k n : ℕ) → (1 < k → 128 ^ (k - 1) ≤ n) → (other : List ℕ) → Spells other n → k ≤ length other
least_sequence k n least other s =
    let b = subst (λ m. m < 128 ^ length other) (sym s.number) (low_first_below other) in
    let o = some_byte other s.sequence in
    elim (cases_lt 1 k) [
      | inl lt ↦ omega (arith, wider (length other) (k - 1) n b (least lt))
      | inr le ↦ omega arith
    ]

pub uleb_put : (old new : List ℕ) (k n : ℕ) → IsWidth k n → n < 2 ^ 32 → new ≡ old ++ sequence_of k n → Appends (Shortest Spells) old new n
uleb_put old new zero n w range e = absurd (omega (arith, w.some))
uleb_put old new (suc k) n w range e = record {
  bytes = sequence_of (suc k) n;
  joined = e;
  spelled = record {
    spelled = spelled_sequence k n w.short w.fits range;
    least = λ other s. rw (length-sequence_of (suc k) n) (least_sequence (suc k) n w.least other s);
  };
}
