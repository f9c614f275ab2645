-- What is kept of a list of types to find each by its hash.
use Rattle.std.specs.Prelude.{◌≡◌, ◌≢◌, ℕ, ◌<◌, List, map, Some}
use Rattle.std.specs.List.{slice_get}
use Rattle.std.specs.Option.{MatchOption}
use Rattle.std.specs.HashMap.{get}
use Rattle.std.specs.Str.{bytes_eq}
use Rattle.program_types.specs.Content.{Descriptor, Program}
use Rattle.program_types.specs.View.{desc}
use Rattle.program_types.specs.declared.names.Desc.{Desc}
use Rattle.program_rules.specs.Rules.{IsNew}
use Rattle.program_rules.specs.declared.numbers.TypePlaces.{TypePlaces}

-- the types that a program defines, class by class
abbrev pub types : Program → List Descriptor
types p = map (λ c. c.ty) p

-- None of the first n types is this one.
abbrev pub NoneWithin : List Descriptor → ℕ → Descriptor → Type 0
NoneWithin ts n t = (j : ℕ) → j < n → slice_get ts j ≢ Some t

-- Type k is the last of the first n that is this one.
pub record IsLastWithin (ts : List Descriptor) (n : ℕ) (t : Descriptor) (k : ℕ) : Type 0 where
  pub within : k < n
  pub there : slice_get ts k ≡ Some t
  pub none : (j : ℕ) → k < j → j < n → slice_get ts j ≢ Some t

-- Type k is the first of the first n that stands before it too.
pub record IsFirstAgain (ts : List Descriptor) (n : ℕ) (k : ℕ) : Type 0 where
  pub within : k < n
  pub again : ¬ IsNew ts k
  pub earlier : (i : ℕ) → i < k → IsNew ts i

-- Where the first n types stand: each one's last number, and the first number whose type stands before it too.
pub record AreNumbers (ts : List Descriptor) (n : ℕ) (numbers : TypePlaces) : Type 0 where
  pub last : (t : Desc) → MatchOption (get (λ x y. bytes_eq (desc x) (desc y)) numbers.last t) (NoneWithin ts n (desc t)) (IsLastWithin ts n (desc t))
  pub again : MatchOption numbers.again ((k : ℕ) → k < n → IsNew ts k) (IsFirstAgain ts n)
