-- Beside Frame.antt: what no promise reaches.
use Rattle.std.specs.Prelude.{ℕ, ◌≤◌, List, length}
use Rattle.dex_container.specs.Layout.{map_end}

-- The map's entries can be read.
pub record MapIsReadable (b : List ℕ) : Type 0 where
  pub long : 112 ≤ length b
  pub room : map_end b ≤ length b
