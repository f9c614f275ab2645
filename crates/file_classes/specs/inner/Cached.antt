-- What is cached for an array of static values, by the byte offset at which it stands.
-- Page: "Dalvik Executable format": items that several rows refer to.
use Rattle.std.specs.Prelude.{ℕ, List}
use Rattle.program_types.specs.Content.{Name, Value}
use Rattle.dex_value.specs.Standing.{ArrayStands}

-- This is kept of an array, however many values are wanted.
abbrev pub StandsOnce : {V : Type 0} → (V → List Value → Type 0) → (ℕ → Name → Type 0) → List ℕ → ℕ → V → Type 0
StandsOnce Is N b off x = (vs : List Value) × (most : ℕ) × ArrayStands N b off most vs × Is x vs
