-- LEB128: what the contracts of private functions cite.
use Rattle.std.specs.Prelude.{◌≡◌, ◌⊎◌, ℤ, pos, ◌+ℤ◌, ◌≤ℤ◌, ◌<ℤ◌, ℕ, ◌+◌, ◌-◌, ◌*◌, ◌/◌, ◌%◌, ◌^◌, ◌<◌, ◌≤◌, zero, suc, List, [], ◌∷◌, ◌++◌, length, take}
use Rattle.dex_base.specs.Leb128.{IsSequence, low_first}

-- The first `len` bytes are a sequence with this sum.
pub record IsWhole (bytes : List ℕ) (len number scale : ℕ) : Type 0 where
  pub inside : len ≤ length bytes
  pub short : len ≤ 5
  pub some : 0 < len
  pub sequence : IsSequence (take len bytes)
  pub number_is : number ≡ low_first (take len bytes)
  pub scale_is : scale ≡ 128 ^ len
  pub below : number < scale
  pub small : scale ≤ 2 ^ 35

-- No front of at most five bytes is a sequence.
abbrev pub NoSequence : List ℕ → Type 0
NoSequence bytes = (front rest : List ℕ) → bytes ≡ front ++ rest → length front ≤ 5 → IsSequence front → ⊥

-- The `len` bytes that spell n: seven bits each.
abbrev pub sequence_of : ℕ → ℕ → List ℕ
sequence_of zero n = []
sequence_of (suc zero) n = n ∷ []
sequence_of (suc (suc k)) n = (n % 128 + 128) ∷ sequence_of (suc k) (n / 128)

-- The fewest bytes for n.
pub record IsWidth (len n : ℕ) : Type 0 where
  pub some : 0 < len
  pub short : len ≤ 5
  pub fits : n < 128 ^ len
  pub least : 1 < len → 128 ^ (len - 1) ≤ n

-- The fewest bytes for z, and the number whose seven bits at a time they hold.
pub record IsSignedWidth (len bits : ℕ) (z : ℤ) : Type 0 where
  pub some : 0 < len
  pub short : len ≤ 5
  pub positive : pos 0 ≤ℤ z → (pos bits ≡ z) × (2 * bits < 128 ^ len)
  pub negative : z <ℤ pos 0 → (pos bits ≡ z +ℤ pos (128 ^ len)) × (bits < 128 ^ len) × (128 ^ len ≤ 2 * bits)
  pub least : 1 < len → (pos (128 ^ (len - 1)) ≤ℤ (z +ℤ z)) ⊎ ((z +ℤ (z +ℤ pos (128 ^ (len - 1)))) <ℤ pos 0)
