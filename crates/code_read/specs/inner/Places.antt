-- Beside Places.antt: what no promise reaches.
use Rattle.std.specs.Prelude.{ℕ, ◌<◌, ◌≤◌, List, length, slice_index}

-- The first n addresses are below, and no others.
pub record IsCountBelow (ss : List ℕ) (x n : ℕ) : Type 0 where
  pub within : n ≤ length ss
  pub before : (k : ℕ) → k < n → slice_index ss k < x
  pub after : (k : ℕ) → n ≤ k → k < length ss → x ≤ slice_index ss k
