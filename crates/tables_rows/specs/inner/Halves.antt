-- Bytes as numbers of two bytes each, the low byte first.
use Rattle.std.specs.Prelude.{ℕ, ◌+◌, ◌*◌, List, [], ◌∷◌}

-- the numbers, two bytes a number
abbrev pub halves : List ℕ → List ℕ
halves (low ∷ high ∷ rest) = (low + 256 * high) ∷ halves rest
halves _ = []
