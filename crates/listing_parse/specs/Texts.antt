-- The lines of a text, and the lines of a program that they mean, in both forms.
-- Page: docs/LISTING.md, "Lines and words", "The two forms", "Labels", "A grammar", "The first form".
use Rattle.std.specs.Prelude.{◌≡◌, ℕ, ◌+◌, Bool, true, false, if◌then◌else◌, List, [], ◌∷◌, ◌++◌, length, map}
use Rattle.std.specs.List.{AllByRecursion}
use Rattle.program_types.specs.Content.{Insn, Program}
use Rattle.listing_words.specs.Words.{Word, plain_word, HasWords}
use Rattle.listing_words.specs.Numbers.{is_number}
use Rattle.listing_slots.specs.Data.{Datum}
use Rattle.listing_slots.specs.Shapes.{Shape}
use Rattle.listing_lines.specs.Lines.{Line, first_line, open_code, end_code, insn_line, try_line, catch_line, catch_all_line, line_of}
use Rattle.listing_lines.specs.Places.{is_insn}
use Rattle.listing_lines.specs.Forms.{is_two}
use Rattle.listing_lines.specs.declared.form.Form.{Form}
use Rattle.listing_lines.specs.declared.form.Form.TheVariants.{One, Two}
use Rattle.listing_lines.specs.Splitting.{lines, is_skipped}
use Rattle.listing_lines.specs.Labels.{Label, is_label}
use Rattle.listing_parse.specs.Forms.{HasShapeInForm, SpellsInForm}
use Rattle.listing_parse.specs.Text.{is_second}
use Rattle.listing_parse.specs.Codes.{Numbered, unnumbered}
use Rattle.listing_parse.specs.Classes.{NoneTwice, ClassesText}

-- ---- one line

-- In the first form an instruction gives itself its number.
abbrev pub is_numbered : Form → ℕ → Shape → Bool
is_numbered One k s = if is_insn s.kind then is_number s.label k else true
is_numbered Two k s = true

-- A line of the text is the text of this line of a program, in a code that has these labels, after k of its
-- instructions.
pub record LineText (form : Form) (labels : List Label) (k : ℕ) (text : List ℕ) (l : Line) : Type 0 where
  pub not_skipped : is_skipped text ≡ false
  pub words : List Word
  pub has_words : HasWords text words
  pub shape : Shape
  pub has_shape : HasShapeInForm form words shape
  pub numbered : is_numbered form k shape ≡ true
  pub word_values : List Datum
  pub spelled : SpellsInForm form labels shape.slots shape.words word_values
  pub is : line_of shape.kind word_values ≡ l

-- The line of a label: in the second form, the label alone.
pub record IsLabelLine (form : Form) (text : List ℕ) (name : List ℕ) : Type 0 where
  pub second : is_two form ≡ true
  pub not_skipped : is_skipped text ≡ false
  pub alone : HasWords text (plain_word name ∷ [])
  pub is_label : is_label name ≡ true

-- ---- all lines

-- A code begins.
abbrev pub opens_code : Line → Bool
opens_code (open_code r i o) = true
opens_code _ = false

-- A try, or a handler of one.
abbrev pub is_of_try : Line → Bool
is_of_try (try_line from to) = true
is_of_try (catch_line d k) = true
is_of_try (catch_all_line k) = true
is_of_try _ = false

-- The names of labels.
abbrev pub label_names : List Label → List (List ℕ)
label_names ls = map (λ (l : Label). l.name) ls

-- Where lines are: outside of codes; among the instructions of a code, after k of them, which has these labels, some of
-- which are still ahead; or after the instructions of a code that has these labels.
pub data Where : Type 0 where
  outside : Where
  among : (labels ahead : List Label) (k : ℕ) → Where
  after_insns : (labels : List Label) → Where

-- The last lines of a text, which are there and after n others, are the text of those of a program, each with its number in
-- the text. A code has the labels that are among its instructions, no name twice; what a label marks is the number of
-- instructions before it.
pub data LinesText (form : Form) : Where → ℕ → List (List ℕ) → List Numbered → Type 0 where
  -- the text's end
  no_lines : {n : ℕ} → LinesText form outside n [] []
  -- a line that is ignored
  silent : {w : Where} {n : ℕ} {l : List ℕ} {ls : List (List ℕ)} {xs : List Numbered}
      → is_skipped l ≡ true → LinesText form w (n + 1) ls xs
      → LinesText form w n (l ∷ ls) xs
  -- a line outside of codes
  one_line : {n : ℕ} {l : List ℕ} {ls : List (List ℕ)} {x : Line} {xs : List Numbered}
      → LineText form [] 0 l x → opens_code x ≡ false → LinesText form outside (n + 1) ls xs
      → LinesText form outside n (l ∷ ls) ((n + 1, x) ∷ xs)
  -- `code REGISTERS INS OUTS`: all labels of the code are ahead
  code_line : {n : ℕ} {l : List ℕ} {ls : List (List ℕ)} {r i o : ℕ} {labels : List Label} {xs : List Numbered}
      → LineText form [] 0 l (open_code r i o) → NoneTwice (label_names labels)
      → LinesText form (among labels labels 0) (n + 1) ls xs
      → LinesText form outside n (l ∷ ls) ((n + 1, open_code r i o) ∷ xs)
  -- `:LABEL`: it marks instruction k
  label_line : {labels ahead : List Label} {k n : ℕ} {l name : List ℕ} {ls : List (List ℕ)} {xs : List Numbered}
      → IsLabelLine form l name → LinesText form (among labels ahead k) (n + 1) ls xs
      → LinesText form (among labels (record { name = name; line = n + 1; number = k } ∷ ahead) k) n (l ∷ ls) xs
  -- an instruction: that of number k
  one_insn : {labels ahead : List Label} {k n : ℕ} {l : List ℕ} {ls : List (List ℕ)} {i : Insn} {xs : List Numbered}
      → LineText form labels k l (insn_line i) → LinesText form (among labels ahead (k + 1)) (n + 1) ls xs
      → LinesText form (among labels ahead k) n (l ∷ ls) ((n + 1, insn_line i) ∷ xs)
  -- no instruction more, and no label
  no_insn : {labels : List Label} {k n : ℕ} {ls : List (List ℕ)} {xs : List Numbered}
      → LinesText form (after_insns labels) n ls xs
      → LinesText form (among labels [] k) n ls xs
  -- `try :FROM :TO`, `catch TYPE :K`, `catchall :K`
  of_try : {labels : List Label} {n : ℕ} {l : List ℕ} {ls : List (List ℕ)} {x : Line} {xs : List Numbered}
      → LineText form labels 0 l x → is_of_try x ≡ true → LinesText form (after_insns labels) (n + 1) ls xs
      → LinesText form (after_insns labels) n (l ∷ ls) ((n + 1, x) ∷ xs)
  -- `end code`
  code_end : {labels : List Label} {n : ℕ} {l : List ℕ} {ls : List (List ℕ)} {xs : List Numbered}
      → LineText form labels 0 l end_code → LinesText form outside (n + 1) ls xs
      → LinesText form (after_insns labels) n (l ∷ ls) ((n + 1, end_code) ∷ xs)

-- ---- a listing

-- The second form's first line.
pub record IsSecond (text : List ℕ) : Type 0 where
  pub not_skipped : is_skipped text ≡ false
  pub words : List Word
  pub has_words : HasWords text words
  pub is_second : is_second words ≡ true

-- The first line of a listing of this form.
abbrev pub BeginsForm : Form → List ℕ → Type 0
BeginsForm One text = LineText One [] 0 text first_line
BeginsForm Two text = IsSecond text

-- The text is the text of this program: the first line that is not ignored determines the form, and the lines after it
-- are the text of those of the program's classes.
pub record ListingText (text : List ℕ) (p : Program) : Type 0 where
  pub form : Form
  pub before : List (List ℕ)
  pub first : List ℕ
  pub after : List (List ℕ)
  pub split : lines text ≡ before ++ first ∷ after
  pub silent : AllByRecursion (λ l. is_skipped l ≡ true) before
  pub begins : BeginsForm form first
  pub program_lines : List Numbered
  pub lines_text : LinesText form outside (length before + 1) after program_lines
  pub classes : ClassesText (unnumbered program_lines) p
