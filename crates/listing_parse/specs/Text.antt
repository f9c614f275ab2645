-- Which program a text is as the reader reads it, and why it is refused.
-- Page: docs/LISTING.md, "Lines and words", "Faults".
use Rattle.std.specs.Prelude.{◌≡◌, ◌≢◌, ℕ, ◌+◌, ◌==◌, ◌&&◌, ◌||◌, Bool, true, false, if◌then◌else◌, ◌⊎◌, List, [], ◌∷◌, ◌++◌, length, Option, Some, None, codes}
use Rattle.program_types.specs.Content.{Program}
use Rattle.program_rules.specs.WellFormed.{WellFormed}
use Rattle.program_rules.specs.Rules.{RuleBreaks}
use Rattle.listing_words.specs.Words.{Word, plain_word, text_in_quotes, HasWords}
use Rattle.listing_slots.specs.Data.{Datum}
use Rattle.listing_slots.specs.declared.kind.Kind.{Kind}
use Rattle.listing_slots.specs.declared.kind.Kind.TheVariants as kind
use Rattle.listing_slots.specs.Keys.{same}
use Rattle.listing_slots.specs.Shapes.{Shape}
use Rattle.listing_lines.specs.Lines.{line_of}
use Rattle.listing_lines.specs.Places.{is_start, is_insns}
use Rattle.listing_lines.specs.Forms.{is_two}
use Rattle.listing_parse.specs.States.{at_top, State, start, stage_of, counted, add}
use Rattle.listing_lines.specs.Splitting.{lines, is_skipped}
use Rattle.listing_lines.specs.Labels.{Label, is_label, is_mark, lookup, labels_ahead}
use Rattle.listing_parse.specs.Forms.{HasShapeInForm, may_stand_in_form, SpellsInForm, MisspellsInForm}
use Rattle.listing_lines.specs.declared.form.Form.{Form}
use Rattle.listing_lines.specs.declared.form.Form.TheVariants.{One, Two}
use Rattle.listing_parse.specs.declared.form_line.FormLine.{FormLine}
use Rattle.listing_parse.specs.declared.form_line.FormLine.TheVariants.{Nothing, Refused, First, Mark}

-- A listing that is being read: its form, the labels of the open code, and what its lines make.
pub record Reading : Type 0 where
  pub form : Form
  pub labels : List Label
  pub base : State

-- Nothing was read; the form is the first one until a first line decides.
abbrev pub begin : Reading
begin = record { form = One; labels = []; base = start }

-- One line more was read.
abbrev pub line_counted : Reading → Reading
line_counted r = record r { base = counted r.base }

-- ---- lines that are not about the program

-- The word is this one.
abbrev pub word_is : List ℕ → Word → Bool
word_is t (plain_word w) = same t w
word_is t (text_in_quotes us) = false

-- `dex 035 listing 2`
abbrev pub is_second : List Word → Bool
is_second (a ∷ b ∷ c ∷ d ∷ []) = word_is (codes "dex") a && (word_is (codes "035") b && (word_is (codes "listing") c && word_is (codes "2") d))
is_second _ = false

-- The first word begins with `:`.
abbrev pub begins_mark : List Word → Bool
begins_mark (plain_word w ∷ ws) = is_mark w
begins_mark _ = false

-- The label is on this line, or nowhere.
abbrev pub is_on : ℕ → Option Label → Bool
is_on line None = true
is_on line (Some l) = l.line == line

-- A label alone: well formed, and not defined before.
abbrev pub line_of_label : Reading → List ℕ → FormLine
line_of_label r w = if is_label w then (if is_on r.base.lines (lookup w r.labels) then Mark else Refused 104) else Refused 101

-- The line of a label: one word, among instructions.
abbrev pub line_of_mark : Reading → List Word → FormLine
line_of_mark r (plain_word w ∷ []) = if is_insns (stage_of r.base.block) then line_of_label r w else Refused 103
line_of_mark r _ = Refused 100

-- What a line is that is not about the program: the first line of the second form, or a label's line, or why neither.
unfoldable pub line_of_form : Reading → List Word → FormLine
line_of_form r ws =
    if is_second ws && (is_two r.form || is_start (stage_of r.base.block)) then (if is_start (stage_of r.base.block) then First else Refused 103)
    else (if is_two r.form && begins_mark ws then line_of_mark r ws else Nothing)

-- The listing is of the second form.
abbrev pub in_second : Reading → Reading
in_second r = record { form = Two; labels = []; base = record r.base { block = at_top } }

-- ---- lines one by one

-- The labels after a line of this kind: those of a code are of the lines that follow it, up to the code's end.
abbrev pub labels_after : Form → Kind → ℕ → List (List ℕ) → List Label → List Label
labels_after Two kind.OpenCode line ls es = labels_ahead [] line 0 ls
labels_after Two kind.EndCode line ls es = []
labels_after _ _ line ls es = es

-- The line has this meaning for the program, and these lines follow it.
pub record LineMeans (r : Reading) (ls : List (List ℕ)) (ws : List Word) (t : Reading) : Type 0 where
  pub shape : Shape
  pub has_shape : HasShapeInForm r.form ws shape
  pub may_stand : may_stand_in_form r.form r.base shape ≡ true
  pub word_values : List Datum
  pub spelled : SpellsInForm r.form r.labels shape.slots shape.words word_values
  pub next : State
  pub added : add r.base (line_of shape.kind word_values) ≡ Some next
  pub is : t ≡ record { form = r.form; labels = labels_after r.form shape.kind (r.base.lines + 1) ls r.labels; base = next }

-- After the lines that make r, and before these, this line makes it t.
pub record AddsLine (r : Reading) (ls : List (List ℕ)) (line : List ℕ) (t : Reading) : Type 0 where
  pub words : List Word
  pub has_words : HasWords line words
  pub makes : ((line_of_form r words ≡ First) × (t ≡ in_second r)) ⊎ ((line_of_form r words ≡ Mark) × (t ≡ r)) ⊎ ((line_of_form r words ≡ Nothing) × LineMeans r ls words t)

-- A line is read, whether it is ignored or not: it counts in any case.
abbrev pub TakesLine : Reading → List (List ℕ) → List ℕ → Reading → Type 0
TakesLine r ls line t = ((is_skipped line ≡ true) × (t ≡ line_counted r)) ⊎ ((is_skipped line ≡ false) × AddsLine (line_counted r) ls line t)

-- Lines one after the other, and then these.
abbrev pub Reads : Reading → List (List ℕ) → List (List ℕ) → Reading → Type 0
Reads r [] rest t = r ≡ t
Reads r (l ∷ ls) rest t = (u : Reading) × TakesLine r (ls ++ rest) l u × Reads u ls rest t

-- The text is a listing of this program: its lines, one after the other, make the program's classes, no block is open at its
-- end, each target is an instruction of its code, and the program is well formed.
pub record IsListing (text : List ℕ) (p : Program) : Type 0 where
  pub end : Reading
  pub read : Reads begin (lines text) [] end
  pub whole : end.base.block ≡ at_top
  pub targets : end.base.late ≡ None
  pub classes : end.base.done ≡ p
  pub formed : WellFormed p

-- ---- faults

-- 100 Word: no words.
abbrev pub IsWordless : List ℕ → Type 0
IsWordless line = (ws : List Word) → HasWords line ws → ⊥

-- 103 Order: it is not allowed after these lines.
pub record IsMisplaced (r : Reading) (ws : List Word) : Type 0 where
  pub shape : Shape
  pub has_shape : HasShapeInForm r.form ws shape
  pub refused : may_stand_in_form r.form r.base shape ≡ false

-- 101 Name, 102 Number: from the left, the first word without a value in its slot.
pub record IsMisspelled (r : Reading) (ws : List Word) (code : ℕ) : Type 0 where
  pub shape : Shape
  pub has_shape : HasShapeInForm r.form ws shape
  pub may_stand : may_stand_in_form r.form r.base shape ≡ true
  pub bad : MisspellsInForm r.form r.labels shape.slots shape.words code

-- 104 Twice: it gives again what may be given once.
pub record IsTwice (r : Reading) (ws : List Word) : Type 0 where
  pub shape : Shape
  pub has_shape : HasShapeInForm r.form ws shape
  pub may_stand : may_stand_in_form r.form r.base shape ≡ true
  pub word_values : List Datum
  pub spelled : SpellsInForm r.form r.labels shape.slots shape.words word_values
  pub refused : add r.base (line_of shape.kind word_values) ≡ None

-- Why these words have no meaning for the program: 100 Word if they have no shape, or one of the others.
abbrev pub IsMeaningless : Reading → List Word → ℕ → Type 0
IsMeaningless r ws code = ((code ≡ 100) × ((sh : Shape) → HasShapeInForm r.form ws sh → ⊥)) ⊎ ((code ≡ 103) × IsMisplaced r ws) ⊎ IsMisspelled r ws code ⊎ ((code ≡ 104) × IsTwice r ws)

-- Why these words are refused: as the first line of a form or as a label's line, or as any other.
abbrev pub AreRefused : Reading → List Word → ℕ → Type 0
AreRefused r ws code = (line_of_form r ws ≡ Refused code) ⊎ ((line_of_form r ws ≡ Nothing) × IsMeaningless r ws code)

-- Why a line is refused after the lines that make r.
pub record LineIsRefused (r : Reading) (line : List ℕ) (code : ℕ) : Type 0 where
  pub not_skipped : is_skipped line ≡ false
  pub why : ((code ≡ 100) × IsWordless line) ⊎ ((ws : List Word) × HasWords line ws × AreRefused r ws code)

-- The lines before it are accepted, and it isn't.
pub record IsBadLine (ls : List (List ℕ)) (code place : ℕ) : Type 0 where
  pub before : List (List ℕ)
  pub bad : List ℕ
  pub after : List (List ℕ)
  pub joined : ls ≡ before ++ bad ∷ after
  pub number : place ≡ length before + 1
  pub state : Reading
  pub accepted : Reads begin before (bad ∷ after) state
  pub refused : LineIsRefused (line_counted state) bad code

-- 106 NotEnded: all lines are accepted, and a block is open or nothing was read.
pub record IsOpen (ls : List (List ℕ)) : Type 0 where
  pub state : Reading
  pub accepted : Reads begin ls [] state
  pub inside : state.base.block ≢ at_top

-- 105 Target: all lines are accepted and no block is open, and this is the lowest line with a target that is no instruction.
pub record IsLate (ls : List (List ℕ)) (place : ℕ) : Type 0 where
  pub state : Reading
  pub accepted : Reads begin ls [] state
  pub whole : state.base.block ≡ at_top
  pub late : state.base.late ≡ Some place

-- All lines are accepted, no block is open and each target is an instruction, but the program breaks a rule; the
-- place is the number of the class that does.
pub record IsIllFormed (ls : List (List ℕ)) (code place : ℕ) : Type 0 where
  pub state : Reading
  pub accepted : Reads begin ls [] state
  pub whole : state.base.block ≡ at_top
  pub targets : state.base.late ≡ None
  pub breaks : RuleBreaks state.base.done (record { code = code; place = place })

-- The text has this fault at this line, or in this class.
abbrev pub ListingBreaks : List ℕ → ℕ → ℕ → Type 0
ListingBreaks text code place =
    IsBadLine (lines text) code place
    ⊎ ((code ≡ 106) × (place ≡ length (lines text)) × IsOpen (lines text))
    ⊎ ((code ≡ 105) × IsLate (lines text) place)
    ⊎ IsIllFormed (lines text) code place

-- ---- contracts of private helpers
