-- Whole lines in front of a text.
use Rattle.std.proofs.Common.{◌≡◌, ℕ, ◌≤◌, List, [], ◌++◌, Option, None}
use Rattle.std.specs.List.{AllByRecursion}
use Rattle.program_types.specs.Content.{Catch, Try, Class}
use Rattle.listing_lines.specs.Needs.{Need}
use Rattle.listing_parse.specs.States.{State, Open, ClassPart, OpenBody, CodePart, at_insns, in_try, at_top, in_class, in_code, all_tries}
use Rattle.listing_lines.specs.Splitting.{lines}
use Rattle.listing_lines.specs.declared.form.Form.{Form}
use Rattle.listing_lines.specs.Labels.{Label}
use Rattle.listing_parse.specs.Text.{Reading, Reads}

-- What holds beside the state: the form of the listing, and the labels of the open code.
pub record Frame : Type 0 where
  pub form : Form
  pub labels : List Label

-- Outside of codes there are no labels.
abbrev pub bare : Form → Frame
bare form = record { form = form; labels = [] }

-- In a form, with these labels.
abbrev pub frame : Form → List Label → Frame
frame form es = record { form = form; labels = es }

-- A listing that was read to this state.
abbrev pub at : Frame → State → Reading
at f s = record { form = f.form; labels = f.labels; base = s }

-- Read from state s in one frame, the text leads to state t in another, whatever follows it.
abbrev pub RunsInto : Frame → State → List ℕ → Frame → State → Type 0
RunsInto f s text g t = (rest : List ℕ) (u : Reading) → Reads (at g t) (lines rest) [] u → Reads (at f s) (lines (text ++ rest)) [] u

-- In the same frame.
abbrev pub RunsTo : Frame → State → List ℕ → State → Type 0
RunsTo f s text t = RunsInto f s text f t

-- No line needs more instructions than the count.
abbrev pub NeedsFit : ℕ → List Need → Type 0
NeedsFit c needs = AllByRecursion (λ (n : Need). n.count ≤ c) needs

-- Outside of classes: the whole classes, and how many lines were read. No target was late.
abbrev pub outside : List Class → ℕ → State
outside done n = record { done = done; block = at_top; lines = n; late = None }

-- In a class.
abbrev pub within : ClassPart → List Class → Open → Option ℕ → ℕ → State
within p done o late n = record { done = done; block = in_class o p; lines = n; late = late }

-- In a code of a class.
abbrev pub coding : CodePart → List Class → Open → Option ℕ → OpenBody → ℕ → State
coding p done o late b n = record { done = done; block = in_code o b p; lines = n; late = late }

-- The same among the instructions of the code.
abbrev pub among : List Class → Open → Option ℕ → OpenBody → ℕ → State
among done o late b n = coding at_insns done o late b n

-- A try is open, with these catches.
abbrev pub trying : ℕ → ℕ → List Catch → CodePart
trying from to xs = in_try (record { from = from; to = to; catches = xs })

-- The code with these tries.
abbrev pub with_handlers : OpenBody → List Try → List Need → OpenBody
with_handlers b ts needs = record b { tries = ts; needs = needs }

-- From state s, the text leads into the same code with these tries.
pub record Tried (f : Frame) (c : ℕ) (done : List Class) (o : Open) (late : Option ℕ) (b : OpenBody) (s : State) (text : List ℕ) (ts : List Try) : Type 0 where
  pub part : CodePart
  pub tries : List Try
  pub needs : List Need
  pub lines : ℕ
  pub runs : RunsTo f s text (coding part done o late (with_handlers b tries needs) lines)
  pub has : all_tries part None tries ≡ ts
  pub fit : NeedsFit c needs
