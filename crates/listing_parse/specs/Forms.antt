-- What differs between the two forms of listings.
-- Page: docs/LISTING.md, "The two forms".
use Rattle.std.specs.Prelude.{ℕ, Bool, List}
use Rattle.listing_words.specs.Words.{Word}
use Rattle.listing_slots.specs.declared.slot.Slot.{Slot}
use Rattle.listing_slots.specs.Data.{Datum}
use Rattle.listing_slots.specs.Slots.{SpellsSlots, MisspellsSlots}
use Rattle.listing_lines.specs.Labels.{Label, SpellsAll, MisspellsAll}
use Rattle.listing_slots.specs.Shapes.{Shape, HasShape, HasBareShape}
use Rattle.listing_lines.specs.Places.{may_stand}
use Rattle.listing_lines.specs.declared.form.Form.{Form}
use Rattle.listing_lines.specs.declared.form.Form.TheVariants.{One, Two}
use Rattle.listing_parse.specs.States.{State, stage_of, stands}

-- The words have this shape, in a listing of this form.
abbrev pub HasShapeInForm : Form → List Word → Shape → Type 0
HasShapeInForm One ws s = HasShape ws s
HasShapeInForm Two ws s = HasBareShape ws s

-- A line of this shape is allowed after the lines so far, in a listing of this form.
abbrev pub may_stand_in_form : Form → State → Shape → Bool
may_stand_in_form One s sh = stands s sh
may_stand_in_form Two s sh = may_stand (stage_of s.block) sh.kind

-- Each word has this value in its slot, in a listing of this form.
abbrev pub SpellsInForm : Form → List Label → List Slot → List Word → List Datum → Type 0
SpellsInForm One ls ss ws ds = SpellsSlots ss ws ds
SpellsInForm Two ls ss ws ds = SpellsAll ls ss ws ds

-- One of the words has no value in its slot, in a listing of this form, and this is its fault.
abbrev pub MisspellsInForm : Form → List Label → List Slot → List Word → ℕ → Type 0
MisspellsInForm One ls ss ws code = MisspellsSlots ss ws code
MisspellsInForm Two ls ss ws code = MisspellsAll ls ss ws code
