-- Lines that the reader adds one after the other.
-- Page: docs/LISTING.md, "The lines", "Faults" (103, 104).
use Rattle.std.specs.Prelude.{◌≡◌, ℕ, Bool, true, false, List, [], ◌∷◌, ◌++◌, length, Option, Some}
use Rattle.program_types.specs.Content.{Code, Class, Program}
use Rattle.listing_lines.specs.Lines.{Line, first_line, open_class, end_class, super_line, implements_line, source_line, static_line, instance_line, direct_line, virtual_line, open_code, end_code, insn_line, try_line, catch_line, catch_all_line}
use Rattle.listing_lines.specs.Places.{is_start, is_top, is_heads, is_in_class, is_after, is_insns, is_in_code, is_caught}
use Rattle.listing_lines.specs.declared.stage.Stage.{Stage}
use Rattle.listing_lines.specs.Needs.{earliest}
use Rattle.listing_parse.specs.States.{Open, Owner, at_members, after_method, Block, at_top, in_class, in_code, State, stage_of, with_code_at, with_block, add}
use Rattle.listing_parse.specs.Classes.{ClassText, ClassesText}
use Rattle.listing_parse.specs.Codes.{Numbered, unnumbered, code_lines}
use Rattle.listing_parse.specs.inner.Codes.{late_line}

-- The line is allowed there, as lines of its kind are.
abbrev pub line_stands : Stage → Line → Bool
line_stands s first_line = is_start s
line_stands s (open_class d f) = is_top s
line_stands s end_class = is_in_class s
line_stands s (super_line d) = is_heads s
line_stands s (implements_line d) = is_heads s
line_stands s (source_line us) = is_heads s
line_stands s (static_line m v) = is_in_class s
line_stands s (instance_line m) = is_in_class s
line_stands s (direct_line m) = is_in_class s
line_stands s (virtual_line m) = is_in_class s
line_stands s (open_code r i o) = is_after s
line_stands s end_code = is_in_code s
line_stands s (insn_line i) = is_insns s
line_stands s (try_line from to) = is_in_code s
line_stands s (catch_line d k) = is_caught s
line_stands s (catch_all_line k) = is_caught s

-- The state, when so many lines were read.
abbrev pub at_line : State → ℕ → State
at_line s n = record s { lines = n }

-- The line of this number is allowed there, and makes t of s.
pub record Steps (s : State) (number : ℕ) (l : Line) (t : State) : Type 0 where
  pub stands : line_stands (stage_of s.block) l ≡ true
  pub added : add (at_line s number) l ≡ Some t

-- The lines, one after the other, make t of s; ignored lines may be between them, and count.
abbrev pub Runs : State → List Numbered → State → Type 0
Runs s [] t = t ≡ at_line s t.lines
Runs s ((number, l) ∷ ls) t = (u : State) × Steps s number l u × Runs u ls t

-- No code is open.
abbrev pub is_outside : Block → Bool
is_outside (in_code o b p) = false
is_outside _ = true

-- ---- a class after others

-- One class more is whole, and none is open.
abbrev pub with_class : State → Class → State
with_class s c = record s { done = s.done ++ c ∷ []; block = at_top }

-- The lines are the text of a class, and lines after it, which reach t from the state in which the class is whole.
pub record RunsBehindClass (s : State) (ls : List Numbered) (t : State) : Type 0 where
  pub class : Class
  pub text : List Numbered
  pub after : List Numbered
  pub split : ls ≡ text ++ after
  pub is_text : ClassText (unnumbered text) class
  pub runs : Runs (with_class s class) after t

-- These classes more are whole, none is open, and so many lines were read.
abbrev pub with_classes : State → Program → ℕ → State
with_classes s p n = record s { done = s.done ++ p; block = at_top; lines = n }

-- The lines are the texts of classes, which are whole in t.
pub record RunsToClasses (s : State) (ls : List Numbered) (t : State) : Type 0 where
  pub classes : Program
  pub are_texts : ClassesText (unnumbered ls) classes
  pub whole : t ≡ with_classes s classes t.lines

-- ---- a code after its method

-- After a method of the open class.
abbrev pub after_its_method : State → Open → Owner → State
after_its_method s o m = with_block s (in_class o (after_method m))

-- Just that method of the class has the code, which has this late line, if it has one.
abbrev pub with_its_code : State → Open → Owner → Code → Option ℕ → State
with_its_code s o m c late = record s { block = in_class (with_code_at o m c) at_members; late = earliest s.late late }

-- The lines are the text of a code, and lines after it, which reach t from the state in which the method has the code.
pub record RunsBehindCode (s : State) (o : Open) (m : Owner) (ls : List Numbered) (t : State) : Type 0 where
  pub code : Code
  pub text : List Numbered
  pub after : List Numbered
  pub split : ls ≡ text ++ after
  pub is_text : unnumbered text ≡ code_lines code
  pub runs : Runs (with_its_code s o m code (late_line (length code.insns) text)) after t
