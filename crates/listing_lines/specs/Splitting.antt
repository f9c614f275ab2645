-- Lines of a text.
-- Page: docs/LISTING.md, "Lines and words".
use Rattle.std.specs.Prelude.{ℕ, ◌==◌, Bool, true, if◌then◌else◌, List, [], ◌∷◌}
use Rattle.listing_words.specs.Words.{after_spaces}

-- A byte in front of the first line.
abbrev pub with_byte : ℕ → List (List ℕ) → List (List ℕ)
with_byte c [] = (c ∷ []) ∷ []
with_byte c (l ∷ ls) = (c ∷ l) ∷ ls

-- The text cut at each line feed; an empty last piece is no line.
unfoldable pub lines : List ℕ → List (List ℕ)
lines [] = []
lines (c ∷ cs) = if c == 10 then [] ∷ lines cs else with_byte c (lines cs)

-- The first byte that isn't a space is `#`, or there is none.
abbrev pub is_comment : List ℕ → Bool
is_comment [] = true
is_comment (c ∷ cs) = c == 35

-- A line that is ignored: spaces alone, or a comment.
abbrev pub is_skipped : List ℕ → Bool
is_skipped line = is_comment (after_spaces line)
