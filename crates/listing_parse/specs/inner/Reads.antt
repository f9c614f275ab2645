-- Lines of a text that the reader reads from where no code is open.
use Rattle.std.specs.Prelude.{ℕ, List, []}
use Rattle.listing_lines.specs.declared.form.Form.{Form}
use Rattle.listing_parse.specs.States.{State}
use Rattle.listing_parse.specs.Text.{Reading, Reads}
use Rattle.listing_parse.specs.Codes.{Numbered}
use Rattle.listing_parse.specs.inner.Runs.{at_line, Runs}
use Rattle.listing_parse.specs.Texts.{outside, LinesText}

-- A text of this form was read to this state.
abbrev pub outside_codes : Form → State → Reading
outside_codes form s = record { form = form; labels = []; base = s }

-- In a text of this form the lines are read from s to t, however many lines t has counted then.
abbrev pub AreRead : Form → State → List (List ℕ) → State → Type 0
AreRead form s ls t =
    (n : ℕ) × Reads (outside_codes form s) ls [] (outside_codes form (at_line t n))

-- In a text of this form these are the text of lines of a program, which make t of s.
pub record RunText (form : Form) (s : State) (ls : List (List ℕ)) (t : State) : Type 0 where
  pub program_lines : List Numbered
  pub lines_text : LinesText form outside s.lines ls program_lines
  pub run : Runs s program_lines t
