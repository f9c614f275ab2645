-- The bytes at the front of a text that are of one kind: what the contracts of private functions cite.
use Rattle.std.specs.Prelude.{ℕ, ◌+◌, ◌-◌, ◌%◌, ◌<◌, ◌≤◌, ◌==◌, if◌then◌else◌, List, slice_index}
use Rattle.std.specs.Int.{w64, trailing_zeros}

-- A byte of those that follow each other, `count` of them from `first` on; after 255 comes 0.
abbrev pub IsOf : ℕ → ℕ → ℕ → Type 0
IsOf first count c = (c + 256 - first) % 256 < count

-- From one place to another, the first whose byte isn't of the kind, or the end.
pub record IsRunEnd (first count : ℕ) (text : List ℕ) (from to stop : ℕ) : Type 0 where
  pub within : stop ≤ to
  pub all : (k : ℕ) → from ≤ k → k < stop → IsOf first count (slice_index text k)
  pub stops : stop < to → IsOf first count (slice_index text stop) → ⊥

-- The place of the lowest bit that is set, or the number of lanes.
abbrev pub first_mark : ℕ → ℕ → ℕ
first_mark marks lanes = if marks == 0 then lanes else trailing_zeros w64 marks
