-- The lines of a code, and the code that they mean.
-- Page: docs/LISTING.md, "The lines", "A grammar", "Faults" (105).
use Rattle.std.specs.Prelude.{ℕ, nat_lt, nat_le, ◌&&◌, Bool, true, List, [], ◌∷◌, ◌++◌, map, Option, Some, None}
use Rattle.std.specs.List.{flat_map, list_all}
use Rattle.program_types.specs.Formed.{insn_leads}
use Rattle.program_types.specs.Content.{Insn, Catch, Try, Code}
use Rattle.listing_lines.specs.Lines.{Line, open_code, end_code, insn_line, try_line, catch_line, catch_all_line}

-- A line, and its number in the text, from 1.
abbrev pub Numbered : Type 0
Numbered = ℕ × Line

-- The lines without their numbers.
abbrev pub unnumbered : List Numbered → List Line
unnumbered ls = map (λ (l : Numbered). l.1) ls

-- ---- the text of a code

-- A line for each instruction, in their order.
abbrev pub insn_lines : List Insn → List Line
insn_lines is = map (λ i. insn_line i) is

-- `catch TYPE :K` for each handler of a type, in their order.
abbrev pub catch_lines : List Catch → List Line
catch_lines cs = map (λ (c : Catch). catch_line c.ty c.at) cs

-- `catchall :K`, if there is one.
abbrev pub catch_all_lines : Option ℕ → List Line
catch_all_lines None = []
catch_all_lines (Some k) = catch_all_line k ∷ []

-- `try :FROM :TO`, its catches, and the one of all else after them.
abbrev pub try_lines : Try → List Line
try_lines t = try_line t.from t.to ∷ (catch_lines t.catches ++ catch_all_lines t.catch_all)

-- The instructions, then the tries.
abbrev pub inner_lines : Code → List Line
inner_lines c = insn_lines c.insns ++ flat_map try_lines c.tries

-- `code REGISTERS INS OUTS`, the lines in it, `end code`.
abbrev pub code_lines : Code → List Line
code_lines c = open_code c.registers c.ins c.outs ∷ (inner_lines c ++ end_code ∷ [])

-- ---- targets

-- Each target of the line is one of the n instructions of its code; what a try covers may end after the last one.
abbrev pub has_targets_within : ℕ → Line → Bool
has_targets_within n (insn_line i) = list_all (λ to. nat_lt to n) (insn_leads i)
has_targets_within n (try_line from to) = nat_lt from n && nat_le to n
has_targets_within n (catch_line d k) = nat_lt k n
has_targets_within n (catch_all_line k) = nat_lt k n
has_targets_within n _ = true
