-- A line is added, or why it is refused.
use Rattle.std.proofs.Common.{◌≡◌, ℕ, ◌+◌, true, false, inl, inr, List, Some, None, refl}
use Rattle.listing_words.specs.Words.{Word, HasWords}
use Rattle.listing_slots.specs.Data.{Datum}
use Rattle.listing_slots.specs.Shapes.{Shape}
use Rattle.listing_lines.specs.Lines.{line_of}
use Rattle.listing_parse.specs.States.{State, add}
use Rattle.listing_lines.specs.Splitting.{is_skipped}
use Rattle.listing_parse.specs.Forms.{HasShapeInForm, may_stand_in_form, SpellsInForm, MisspellsInForm}
use Rattle.listing_parse.specs.Text.{Reading, line_of_form, labels_after, LineMeans, IsMeaningless, LineIsRefused}
use Rattle.listing_parse.specs.declared.form_line.FormLine.TheVariants.{Nothing}

pub meaningless_refused : (r : Reading) (line : List ℕ) (ws : List Word) (code : ℕ) → is_skipped line ≡ false → HasWords line ws → line_of_form r ws ≡ Nothing → IsMeaningless r ws code → LineIsRefused r line code
meaningless_refused r line ws code k h e u = record { not_skipped = k; why = inr (ws, h, inr (e, u)) }

pub shapeless : (r : Reading) (ws : List Word) → ((sh : Shape) → HasShapeInForm r.form ws sh → ⊥) → IsMeaningless r ws 100
shapeless r ws none = inl (refl, none)

pub misplaced : (r : Reading) (ws : List Word) (sh : Shape) → HasShapeInForm r.form ws sh → may_stand_in_form r.form r.base sh ≡ false → IsMeaningless r ws 103
misplaced r ws sh g n = inr (inl (refl, record { shape = sh; has_shape = g; refused = n }))

pub misspelled : (r : Reading) (ws : List Word) (sh : Shape) (code : ℕ) → HasShapeInForm r.form ws sh → may_stand_in_form r.form r.base sh ≡ true → MisspellsInForm r.form r.labels sh.slots sh.words code → IsMeaningless r ws code
misspelled r ws sh code g n b = inr (inr (inl (record { shape = sh; has_shape = g; may_stand = n; bad = b })))

pub twice : (r : Reading) (ws : List Word) (sh : Shape) (ds : List Datum) → HasShapeInForm r.form ws sh → may_stand_in_form r.form r.base sh ≡ true → SpellsInForm r.form r.labels sh.slots sh.words ds → add r.base (line_of sh.kind ds) ≡ None → IsMeaningless r ws 104
twice r ws sh ds g n p a = inr (inr (inr (refl, record { shape = sh; has_shape = g; may_stand = n; word_values = ds; spelled = p; refused = a })))

pub taken : (r t : Reading) (ls : List (List ℕ)) (ws : List Word) (sh : Shape) (ds : List Datum) (next : State) → HasShapeInForm r.form ws sh → may_stand_in_form r.form r.base sh ≡ true → SpellsInForm r.form r.labels sh.slots sh.words ds
    → add r.base (line_of sh.kind ds) ≡ Some next → t ≡ record { form = r.form; labels = labels_after r.form sh.kind (r.base.lines + 1) ls r.labels; base = next } → LineMeans r ls ws t
taken r t ls ws sh ds next g n p a is = record { shape = sh; has_shape = g; may_stand = n; word_values = ds; spelled = p; next = next; added = a; is = is }
