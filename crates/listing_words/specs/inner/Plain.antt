-- Units that are printed as they are: what the contracts of private functions cite.
use Rattle.std.specs.Prelude.{◌≡◌, ℕ, ◌<◌, ◌≤◌, Bool, true, false, List, ◌++◌, take, length, slice_index, EachIndex}
use Rattle.listing_words.specs.Texts.{IsUnescaped}

-- A unit that stands for itself where those from `least` on can: a name has no space, a text has.
pub record IsPlainFrom (least u : ℕ) : Type 0 where
  pub from : least ≤ u
  pub plain : IsUnescaped u

-- So many units at the front stand for themselves, and are what was appended.
pub record IsFront (least : ℕ) (us old new : List ℕ) (n : ℕ) : Type 0 where
  pub inside : n ≤ length us
  pub plain : (k : ℕ) → k < n → IsPlainFrom least (slice_index us k)
  pub appended : new ≡ old ++ take n us

-- All units stand for themselves, and were appended, or nothing was.
abbrev pub AllOrNone : Bool → ℕ → List ℕ → List ℕ → List ℕ → Type 0
AllOrNone true least us old new = EachIndex us (λ k. IsPlainFrom least (slice_index us k)) × (new ≡ old ++ us)
AllOrNone false least us old new = new ≡ old
