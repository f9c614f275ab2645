-- Beside Codes.antt: what no promise reaches.
use Rattle.std.specs.Prelude.{ℕ, if◌then◌else◌, List, [], ◌∷◌, Option, Some, None}
use Rattle.listing_parse.specs.Codes.{Numbered, has_targets_within}

-- The first of these lines with a target that is none of the n instructions, if there is one.
abbrev pub late_line : ℕ → List Numbered → Option ℕ
late_line n [] = None
late_line n ((number, l) ∷ ls) = if has_targets_within n l then late_line n ls else Some number
