-- Beside Descriptor.antt: what no promise reaches.
use Rattle.std.specs.Prelude.{ℕ, ◌≤◌, List, length, take}

-- The first `len` units are such a text.
abbrev pub HasFront : (List ℕ → Type 0) → List ℕ → ℕ → Type 0
HasFront IsText units len = (len ≤ length units) × IsText (take len units)
