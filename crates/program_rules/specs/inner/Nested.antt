-- The names in a value, part by part: what the contracts of private functions cite.
use Rattle.std.specs.Prelude.{◌≡◌, ℕ, ◌<◌, ◌≤◌, ◌↔◌, List}
use Rattle.program_types.specs.Content.{Value, Values}
use Rattle.program_types.specs.Depth.{depth, greatest_depth}
use Rattle.program_types.specs.Mentions.{NamesHold, AllNamesHold}
use Rattle.program_types.specs.View.{value}
use Rattle.program_types.specs.declared.value.Value.{Value as Held}
use Rattle.program_types.proofs.Nesting.{from}
use Rattle.program_rules.specs.Valid.{IsValidName}
use Rattle.program_rules.specs.declared.nested.Walked.{Walked}
use Rattle.program_rules.specs.declared.nested.Walked.TheVariants as walked
use Rattle.program_rules.specs.declared.nested.Progress.{Progress}
use Rattle.program_rules.specs.declared.nested.Progress.TheVariants as progress

-- A file can have all names in the value.
abbrev pub IsGood : Value → Type 0
IsGood v = NamesHold IsValidName v

-- And in the values.
abbrev pub AreGood : Values → Type 0
AreGood vs = AllNamesHold IsValidName vs

-- What is known of a value: what is left of it decides it, and is no deeper.
abbrev pub IsWalked : Value → Walked → Type 0
IsWalked v walked.Valid = IsGood v
IsWalked v walked.Invalid = ¬ IsGood v
IsWalked v (walked.Left left) = (IsGood v ↔ IsGood (value left.now)) × (depth (value left.now) ≤ depth v)

-- What is known of a value that was examined: the one that is left decides it and is deeper within, or more are left of it.
abbrev pub IsProgress : Value → Progress → Type 0
IsProgress v progress.Valid = IsGood v
IsProgress v progress.Invalid = ¬ IsGood v
IsProgress v (progress.One left) = (IsGood v ↔ IsGood (value left.now)) × (depth (value left.now) < depth v)
IsProgress v (progress.Many left) = (IsGood v ↔ IsGood (value left.now)) × (depth (value left.now) ≤ depth v)

-- What is known of an array of these values after the first i of them.
abbrev pub IsSoFar : Value → List Held → ℕ → Progress → Type 0
IsSoFar v xs i progress.Valid = AreGood (from xs 0) ↔ AreGood (from xs i)
IsSoFar v xs i progress.Invalid = ¬ AreGood (from xs 0)
IsSoFar v xs i (progress.One left) = (AreGood (from xs 0) ↔ (IsGood (value left.now) × AreGood (from xs i))) × (depth (value left.now) ≤ greatest_depth (from xs 0))
IsSoFar v xs i (progress.Many left) = value left.now ≡ v
