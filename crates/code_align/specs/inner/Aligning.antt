-- Beside Aligning.antt: what no promise reaches.
use Rattle.std.specs.Prelude.{ℕ, ◌≡◌, ◌+◌, ◌%◌, ◌<◌, ◌≤◌, ◌==◌, if◌then◌else◌, List, [], ◌∷◌, length, slice_index, Bool, true, false, Option, Some, None, IfSome}
use Rattle.std.specs.List.{AllByRecursion}
use Rattle.program_types.specs.Content.{Insn, Try}
use Rattle.program_types.specs.Formed.{insn_payload}
use Rattle.program_types.specs.Sizes.{insn_units}
use Rattle.program_types.specs.declared.payload.Payload.{Payload}
use Rattle.code_align.specs.Aligned.{moved}

-- there is a payload
abbrev pub is_there : Option Payload → Bool
is_there None = false
is_there (Some p) = true

-- an instruction at this address is a payload at an odd one
abbrev pub is_odd : ℕ → Insn → Bool
is_odd at i = if is_there (insn_payload i) then (at % 2 == 1) else false

-- which instructions get a nop before them, where the first would stand at `at`
abbrev pub pads_from : ℕ → List Insn → List Bool
pads_from at [] = []
pads_from at (i ∷ is) = is_odd at i ∷ pads_from (at + (if is_odd at i then 1 else 0) + insn_units i) is

-- These are the new numbers of the instructions, and of the place past the last one.
pub record AreMovedNumbers (ps : List Bool) (ns : List ℕ) : Type 0 where
  pub count : length ns ≡ length ps + 1
  pub each : (k : ℕ) → k ≤ length ps → slice_index ns k ≡ moved ps k

-- the numbers in a try are below `count`
pub record IsTryBelow (count : ℕ) (t : Try) : Type 0 where
  pub from : t.from < count
  pub to : t.to < count
  pub catches : AllByRecursion (λ c. c.at < count) t.catches
  pub last : IfSome t.catch_all (λ k. k < count)
