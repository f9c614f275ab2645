-- A grammar relates the bytes of one encoding to the value that they encode: without a place, and nothing after them.
-- The definitions here place an encoding in bytes, and combine grammars.
use Rattle.std.specs.Prelude.{◌≡◌, ℕ, ◌+◌, ◌≤◌, List, [], ◌∷◌, ◌++◌, length, take}

-- ---- the place of an encoding

-- The first `len` bytes encode `v`.
pub record Begins {V : Type 0} (G : List ℕ → V → Type 0) (bytes : List ℕ) (v : V) (len : ℕ) : Type 0 where
  pub inside : len ≤ length bytes
  pub spelled : G (take len bytes) v

-- No prefix of the bytes encodes a value.
abbrev pub NoneBegins : {V : Type 0} → (List ℕ → V → Type 0) → List ℕ → Type 0
NoneBegins {V} G bytes = (front rest : List ℕ) (v : V) → bytes ≡ front ++ rest → G front v → ⊥

-- The bytes begin with an encoding of `v`, and this rest follows.
pub record Takes {V : Type 0} (G : List ℕ → V → Type 0) (bytes : List ℕ) (v : V) (rest : List ℕ) : Type 0 where
  pub front : List ℕ
  pub whole : bytes ≡ front ++ rest
  pub spelled : G front v

-- `new` is `old` and after it a spelling of `v`.
pub record Appends {V : Type 0} (G : List ℕ → V → Type 0) (old new : List ℕ) (v : V) : Type 0 where
  pub bytes : List ℕ
  pub joined : new ≡ old ++ bytes
  pub spelled : G bytes v

-- No encoding is a prefix of another one, and each encodes one value.
abbrev pub IsPrefixUnique : {V : Type 0} → (List ℕ → V → Type 0) → Type 0
IsPrefixUnique {V} G = (a b x y : List ℕ) (v w : V) → G a v → G b w → a ++ x ≡ b ++ y → (a ≡ b) × (v ≡ w)

-- ---- grammars made of others

-- A spelling of the first value, and after it one of the second, whose grammar the first decides.
pub record Then {V W : Type 0} (G : List ℕ → V → Type 0) (H : V → List ℕ → W → Type 0) (bytes : List ℕ) (p : V × W) : Type 0 where
  pub front : List ℕ
  pub back : List ℕ
  pub joined : bytes ≡ front ++ back
  pub first : G front p.0
  pub second : H p.0 back p.1

-- A spelling of the first value, and after it one of the second.
abbrev pub Pair : {V W : Type 0} → (List ℕ → V → Type 0) → (List ℕ → W → Type 0) → List ℕ → V × W → Type 0
Pair G H = Then G (λ _. H)

-- Spellings of the values, one after the other.
abbrev pub Each : {V : Type 0} → (List ℕ → V → Type 0) → List ℕ → List V → Type 0
Each G bytes [] = bytes ≡ []
Each G bytes (v ∷ vs) = (front : List ℕ) × (back : List ℕ) × (bytes ≡ front ++ back) × G front v × Each G back vs

-- Spellings of the values, one after the other, each with the place where it begins; the first begins at `place`.
abbrev pub Placed : {V : Type 0} → (List ℕ → V → Type 0) → ℕ → List ℕ → List (ℕ × V) → Type 0
Placed G place bytes [] = bytes ≡ []
Placed G place bytes (p ∷ ps) = (front : List ℕ) × (back : List ℕ) × (bytes ≡ front ++ back) × (p.0 ≡ place) × G front p.1 × Placed G (place + length front) back ps

-- Exactly so many values.
abbrev pub Many : {V : Type 0} → (List ℕ → V → Type 0) → ℕ → List ℕ → List V → Type 0
Many G n bytes vs = (length vs ≡ n) × Each G bytes vs

-- An encoded count, followed by so many values.
abbrev pub Counted : {V : Type 0} → (List ℕ → ℕ → Type 0) → (List ℕ → V → Type 0) → List ℕ → List V → Type 0
Counted C G bytes vs = Then C (Many G) bytes (length vs, vs)

-- What encodes `view u` encodes `u`.
abbrev pub Seen : {U V : Type 0} → (U → V) → (List ℕ → V → Type 0) → List ℕ → U → Type 0
Seen view G bytes u = G bytes (view u)

-- A spelling, and after it a zero.
pub record Ended {V : Type 0} (G : List ℕ → V → Type 0) (bytes : List ℕ) (v : V) : Type 0 where
  pub front : List ℕ
  pub joined : bytes ≡ front ++ 0 ∷ []
  pub spelled : G front v
