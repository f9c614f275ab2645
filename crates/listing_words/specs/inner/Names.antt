-- Beside Names.antt: what no promise reaches.
use Rattle.std.specs.Prelude.{◌≡◌, ◌≢◌, ℕ, ◌+◌, ◌≤◌, ◌==◌, if◌then◌else◌, ◌⊎◌, List, [], ◌∷◌, ◌++◌, length, slice_index}
use Rattle.dex_base.specs.Descriptor.{IsDescriptor, IsMemberName}
use Rattle.listing_words.specs.inner.Texts.{HasHex}

-- The unit at the front, byte by byte.
abbrev pub HasNameUnit : List ℕ → ℕ → ℕ → Type 0
HasNameUnit text u len =
    ((u ≢ 92) × (len ≡ 1) × (1 ≤ length text) × (slice_index text 0 ≡ u))
    ⊎ ((len ≡ 6) × HasHex text u)

-- A descriptor at the front.
abbrev pub TakesDescriptor : List ℕ → List ℕ → List ℕ → Type 0
TakesDescriptor text d rest = IsDescriptor d × (text ≡ d ++ rest)

-- `C->n`, the unit that ends it, and what follows.
pub record IsMemberText (stop : ℕ) (us class name tail : List ℕ) : Type 0 where
  pub is_class : IsDescriptor class
  pub is_name : IsMemberName name
  pub joined : us ≡ class ++ (45 ∷ 62 ∷ (name ++ (stop ∷ tail)))

-- What stands before the first such unit.
abbrev pub up_to : ℕ → List ℕ → List ℕ
up_to stop [] = []
up_to stop (u ∷ us) = if u == stop then [] else u ∷ up_to stop us

-- The first such unit and what follows it.
abbrev pub from : ℕ → List ℕ → List ℕ
from stop [] = []
from stop (u ∷ us) = if u == stop then u ∷ us else from stop us
