-- Members are in any order in the text, and rise in the program.
-- Page: docs/LISTING.md, "The lines", "Values".
use Rattle.std.specs.Prelude.{ℕ, ◌+◌, nat_lt, Bool, true, false, if◌then◌else◌, List, [], ◌∷◌, take, map, Option, Some, None}
use Rattle.std.specs.List.{list_any}
use Rattle.std.specs.Ordering.{is_eq, is_lt}
use Rattle.program_types.specs.Key.{Key, key_cmp}
use Rattle.program_types.specs.Content.{Value, Member}
use Rattle.program_rules.specs.Rules.{member_key}
use Rattle.listing_parse.specs.Zeros.{zero_of}

-- A static field, and its value where the text gives one.
pub record Given : Type 0 where
  pub field : Member
  pub value : Option Value

-- A static field is determined by its field, whatever its value in the text.
abbrev pub given_key : Given → Key
given_key g = member_key g.field

-- One of them has this key.
abbrev pub is_held : {X : Type 0} → (X → Key) → Key → List X → Bool
is_held key k ys = list_any (λ y. is_eq (key_cmp k (key y))) ys

-- Before the first that is above it.
abbrev pub put_in : {X : Type 0} → (X → Key) → X → List X → List X
put_in key x [] = x ∷ []
put_in key x (y ∷ ys) = if is_lt (key_cmp (key x) (key y)) then x ∷ (y ∷ ys) else y ∷ put_in key x ys

-- In its place: none where one of its key is held.
abbrev pub with_member : {X : Type 0} → (X → Key) → X → List X → Option (List X)
with_member key x ys = if is_held key (key x) ys then None else Some (put_in key x ys)

-- ---- values

-- The value of a static field, or its type's zero where the text gives none.
abbrev pub value_or_zero : Given → Value
value_or_zero g = elim g.value [ None ↦ zero_of g.field.ty | Some v ↦ v ]

-- The text gives it a value.
abbrev pub is_given : Given → Bool
is_given g = elim g.value [ None ↦ false | Some v ↦ true ]

-- How many fields there are up to the last one that has a value.
unfoldable pub given_length : List Given → ℕ
given_length [] = 0
given_length (g ∷ gs) = if nat_lt 0 (given_length gs) then given_length gs + 1 else (if is_given g then 1 else 0)

-- The values of the fields; before the last one that has a value a field without one takes its type's zero.
abbrev pub values_of : List Given → List Value
values_of gs = map value_or_zero (take (given_length gs) gs)
