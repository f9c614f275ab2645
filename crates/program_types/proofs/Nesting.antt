-- Values one by one: those of a list in memory from a place on, how deep they are, and those of an array as a list.
use Rattle.std.proofs.Common.{◌≡◌, ℕ, zero, suc, ◌+◌, ◌<◌, ◌≤◌, List, [], ◌∷◌, length, map, drop, get_or, refl, ap, arith, add-one}
use Rattle.std.proofs.Math.Seq.{drop-cons}
use Rattle.program_types.specs.Content.{Value, Values, no_values, more_values, values}
use Rattle.program_types.specs.Depth.{depth, greatest_depth}
use Rattle.program_types.specs.View.{value}
use Rattle.program_types.specs.declared.value.Value as made

-- the values from a place on
abbrev pub from : List made.Value → ℕ → Values
from xs i = values (map value (drop i xs))

pub from_next : (xs : List made.Value) (i : ℕ) (d : made.Value) → i < length xs → from xs i ≡ more_values (value (get_or xs i d)) (from xs (i + 1))
from_next xs i d some = rw (add-one, drop-cons xs i d some) refl

-- a value is no deeper than the deepest
pub value_less : (xs : List made.Value) (i : ℕ) (d : made.Value) → i < length xs → depth (value (get_or xs i d)) ≤ greatest_depth (values (map value xs))
value_less [] i d lt = absurd (omega (arith, lt))
value_less (x ∷ xs) zero d lt = omega arith
value_less (x ∷ xs) (suc i) d lt = let r = value_less xs i d (omega (arith, lt)) in omega (arith, r)

-- ---- as a list

abbrev pub listed : Values → List Value
listed no_values = []
listed (more_values v vs) = v ∷ listed vs

pub values-listed : (vs : Values) → values (listed vs) ≡ vs
values-listed no_values = refl
values-listed (more_values v vs) = ap (more_values v) (values-listed vs)
