-- Beside Labels.antt: what no promise reaches.
use Rattle.std.specs.Prelude.{ℕ, ◌+◌, if◌then◌else◌, List, [], ◌∷◌}
use Rattle.listing_lines.specs.Splitting.{is_skipped}
use Rattle.listing_lines.specs.Labels.{first_word, is_mark, is_stop}

-- The number of instructions in these lines, up to the instructions' end.
unfoldable pub insns_ahead : List (List ℕ) → ℕ
insns_ahead [] = 0
insns_ahead (l ∷ ls) =
    if is_skipped l then insns_ahead ls
    else (if is_stop (first_word l) then 0
    else (if is_mark (first_word l) then insns_ahead ls
    else insns_ahead ls + 1))
