-- Beside Text.antt: what no promise reaches.
use Rattle.std.specs.Prelude.{◌≡◌, ◌≢◌, ℕ, ◌⊎◌, Some, None}
use Rattle.listing_parse.specs.States.{at_top, State}
use Rattle.listing_lines.specs.Splitting.{lines}

-- After all lines: no block is open, and each target is an instruction of its code.
abbrev pub IsFinished : State → Type 0
IsFinished s = (s.block ≡ at_top) × (s.late ≡ None)

-- Or why not.
abbrev pub IsUnfinished : State → ℕ → ℕ → Type 0
IsUnfinished s code place = ((code ≡ 106) × (place ≡ s.lines) × (s.block ≢ at_top)) ⊎ ((code ≡ 105) × (s.block ≡ at_top) × (s.late ≡ Some place))
