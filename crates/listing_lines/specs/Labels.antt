-- Labels of the second form: how they are written, what they mark, and the value of a word in the slot of a target.
-- Page: docs/LISTING.md, "Labels".
use Rattle.std.specs.Prelude.{◌≡◌, ℕ, ◌+◌, ◌==◌, ◌&&◌, ◌||◌, nat_lt, nat_le, min, Bool, true, false, if◌then◌else◌, ◌⊎◌, List, [], ◌∷◌, ◌++◌, length, Option, Some, None, is_some}
use Rattle.std.specs.List.{list_all}
use Rattle.listing_words.specs.Words.{Word, plain_word, after_spaces, up_to_space}
use Rattle.listing_slots.specs.declared.slot.Mark.TheVariants as mark
use Rattle.listing_slots.specs.declared.slot.Slot.{Slot}
use Rattle.listing_slots.specs.declared.slot.Slot.TheVariants as slot
use Rattle.listing_slots.specs.declared.key.Key.TheVariants as key
use Rattle.listing_slots.specs.Keys.{key_text, same}
use Rattle.listing_slots.specs.Data.{Datum, word}
use Rattle.listing_slots.specs.Slots.{SpellsSlot, fault_of}
use Rattle.listing_lines.specs.Splitting.{is_skipped}

-- A letter of ASCII, a digit, or `_`.
abbrev pub is_name_byte : ℕ → Bool
is_name_byte c = (nat_le 48 c && nat_le c 57) || (nat_le 65 c && nat_le c 90) || (nat_le 97 c && nat_le c 122) || (c == 95)

-- All bytes are.
abbrev pub are_name_bytes : List ℕ → Bool
are_name_bytes name = list_all is_name_byte name

-- A word begins with `:`.
abbrev pub is_mark : List ℕ → Bool
is_mark [] = false
is_mark (c ∷ cs) = c == 58

-- `:`, and 1 to 32 such bytes.
abbrev pub is_label : List ℕ → Bool
is_label [] = false
is_label (c ∷ name) = (c == 58) && (nat_lt 0 (length name) && (nat_le (length name) 32 && are_name_bytes name))

-- ---- what labels mark

-- A label, its line, and the instruction that it marks.
pub record Label : Type 0 where
  pub name : List ℕ
  pub line : ℕ
  pub number : ℕ

-- The label of this name.
abbrev pub lookup : List ℕ → List Label → Option Label
lookup name [] = None
lookup name (l ∷ ls) = if same name l.name then Some l else lookup name ls

-- One label more: the first of each name counts.
abbrev pub with_label : List Label → Label → List Label
with_label ls l = if is_some (lookup l.name ls) then ls else ls ++ l ∷ []

-- The first word of a line.
abbrev pub first_word : List ℕ → List ℕ
first_word line = up_to_space (after_spaces line)

-- The instructions of a code end at a line of this first word.
abbrev pub is_stop : List ℕ → Bool
is_stop w = same (key_text key.Try) w || same (key_text key.End) w

-- With the labels of the lines from this number on, up to the instructions' end; each line that is no label counts as an
-- instruction, of which number k is the next.
unfoldable pub labels_ahead : List Label → ℕ → ℕ → List (List ℕ) → List Label
labels_ahead es line k [] = es
labels_ahead es line k (l ∷ ls) =
    if is_skipped l then labels_ahead es (line + 1) k ls
    else (if is_stop (first_word l) then es
    else (if is_mark (first_word l) then labels_ahead (with_label es (record { name = first_word l; line = line; number = k })) (line + 1) k ls
    else labels_ahead es (line + 1) (k + 1) ls))

-- The instruction that the label marks, at most the highest number of 32 bits, which a name that is no label has.
abbrev pub marked_by : Option Label → ℕ
marked_by None = 4294967295
marked_by (Some l) = min l.number 4294967295

-- ---- the values of words

-- The slot is that of a target.
abbrev pub is_target : Slot → Bool
is_target (slot.Word mark.Target most) = true
is_target _ = false

-- A label, and the instruction that it marks.
abbrev pub SpellsLabel : List Label → Word → Datum → Type 0
SpellsLabel ls w d = (text : List ℕ) × (w ≡ plain_word text) × (is_label text ≡ true) × (d ≡ word (marked_by (lookup text ls)))

-- As a label, or as any other word.
abbrev pub SpellsBy : Bool → List Label → Slot → Word → Datum → Type 0
SpellsBy true ls s w d = SpellsLabel ls w d
SpellsBy false ls s w d = SpellsSlot s w d

-- In the second form targets are labels.
abbrev pub SpellsHere : List Label → Slot → Word → Datum → Type 0
SpellsHere ls s w d = SpellsBy (is_target s) ls s w d

-- The fault of a word without a value there.
abbrev pub fault_here : Slot → ℕ
fault_here s = if is_target s then 101 else fault_of s

-- Each word has this value in its slot.
abbrev pub SpellsAll : List Label → List Slot → List Word → List Datum → Type 0
SpellsAll ls [] [] [] = Unit {0}
SpellsAll ls (s ∷ ss) (w ∷ ws) (d ∷ ds) = SpellsHere ls s w d × SpellsAll ls ss ws ds
SpellsAll _ _ _ _ = ⊥

-- From the left, the first word without a value in its slot has this fault.
abbrev pub MisspellsAll : List Label → List Slot → List Word → ℕ → Type 0
MisspellsAll ls (s ∷ ss) (w ∷ ws) code =
    (((d : Datum) → SpellsHere ls s w d → ⊥) × (code ≡ fault_here s))
    ⊎ ((d : Datum) × SpellsHere ls s w d × MisspellsAll ls ss ws code)
MisspellsAll _ _ _ code = ⊥
