-- Which instructions of a code are named, in memory.
use Rattle.std.specs.Prelude.{◌≡◌, ℕ, ◌<◌, Bool, false, List, length, get_or}
use Rattle.listing_print.specs.Canon.{is_named}

-- These marks are set for those of the first instructions that are among the numbers.
abbrev pub IsMarked : List Bool → List ℕ → Type 0
IsMarked ms ns = (k : ℕ) → k < length ms → get_or ms k false ≡ is_named ns k
