-- How many instructions a code must have for the targets of its lines.
-- Page: docs/LISTING.md, "Faults" (105).
use Rattle.std.specs.Prelude.{ℕ, ◌+◌, max, nat_lt, if◌then◌else◌, List, [], ◌∷◌, ◌++◌, Option, Some, None}
use Rattle.program_types.specs.Formed.{insn_leads}
use Rattle.program_types.specs.Content.{Insn}
use Rattle.listing_lines.specs.Lines.{Line, insn_line, try_line, catch_line, catch_all_line}

-- More than each target.
abbrev pub most_needed : List ℕ → ℕ
most_needed [] = 0
most_needed (t ∷ ts) = max (t + 1) (most_needed ts)

-- A target is one of the instructions.
abbrev pub insn_needs : Insn → ℕ
insn_needs i = most_needed (insn_leads i)

-- What a try covers may end after the last instruction.
abbrev pub line_needs : Line → ℕ
line_needs (insn_line i) = insn_needs i
line_needs (try_line from to) = max (from + 1) to
line_needs (catch_line d k) = k + 1
line_needs (catch_all_line k) = k + 1
line_needs _ = 0

-- The number of a line, and how many instructions its code must have.
pub record Need : Type 0 where
  pub line : ℕ
  pub count : ℕ

-- One need more, if it is one.
abbrev pub with_need : List Need → ℕ → ℕ → List Need
with_need needs line count = if nat_lt 0 count then needs ++ record { line = line; count = count } ∷ [] else needs

-- The first line that needs more instructions than there are.
unfoldable pub first_late : ℕ → List Need → Option ℕ
first_late count [] = None
first_late count (n ∷ ns) = if nat_lt count n.count then Some n.line else first_late count ns

-- The first of two, one of which may be missing.
abbrev pub earliest : Option ℕ → Option ℕ → Option ℕ
earliest None o = o
earliest (Some line) o = Some line
