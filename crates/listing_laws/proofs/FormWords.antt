-- Printed words in a form: they are written, and say what was printed.
use Rattle.std.proofs.Common.{◌≡◌, ℕ, ◌<◌, ◌≤◌, ◌^◌, true, List, [], ◌∷◌, ◌++◌, length, refl, sym, ap, arith}
use Rattle.std.specs.List.{AllByRecursion}
use Rattle.std.specs.Fmt.{decimal}
use Rattle.std.specs.Char.{digit_value}
use Rattle.std.specs.Str.Parse.{AllDigits}
use Rattle.std.proofs.lemmas.Fmt.{decimal_is_IsNumeral, length-decimal-le}
use Rattle.std.proofs.lemmas.Bool.{le-leb, lt-ltb}
use Rattle.listing_words.specs.Words.{plain_word, word_bytes}
use Rattle.listing_words.specs.inner.Words.{IsWritable}
use Rattle.listing_slots.specs.declared.slot.Mark.TheVariants as mark
use Rattle.listing_slots.specs.declared.slot.Mark.TheVariants.{Target}
use Rattle.listing_slots.specs.declared.slot.Slot.{Slot}
use Rattle.listing_slots.specs.declared.slot.Slot.TheVariants as slot
use Rattle.listing_slots.specs.Data.{Datum, word}
use Rattle.listing_slots.specs.Shown.{shown}
use Rattle.listing_slots.specs.inner.Shown.{FitsSlot}
use Rattle.listing_slots.proofs.ShownLaws.{shown_reads, shown_written, number_written}
use Rattle.listing_lines.specs.declared.form.Form.{Form}
use Rattle.listing_lines.specs.declared.form.Form.TheVariants.{One, Two}
use Rattle.listing_lines.specs.Labels.{Label, is_name_byte, are_name_bytes, is_label, lookup, marked_by, SpellsHere, SpellsAll}
use Rattle.listing_parse.specs.Forms.{SpellsInForm}
use Rattle.listing_print.specs.Operands.{Operand, label_name, operand_text, operand_text_in, shown_in}
use Rattle.listing_print.specs.inner.Reading.{slots_of, data_of, words_in, FitOperands}
use Rattle.listing_print.proofs.PrintedLaws.{words_of, printed_spelled}
use Rattle.listing_laws.proofs.RunLaws.{spaced_words}

-- ---- a target's label is a label

pub label_written : (n : ℕ) → n < 2 ^ 64 → IsWritable (plain_word (label_name n))
label_written n h = (omega arith, (λ q. omega arith), ((omega arith, omega arith), ((omega arith, omega arith), (number_written mark.Nothing n h).2)))

digit_byte : (c : ℕ) → digit_value c < 10 → is_name_byte c ≡ true
digit_byte c h = grind arith

digits_named : (cs : List ℕ) → AllDigits 10 cs → are_name_bytes cs ≡ true
digits_named [] h = refl
digits_named (c ∷ cs) h = rw (digit_byte c h.0) (digits_named cs h.1)

pub named_label : (n : ℕ) → n < 2 ^ 64 → is_label (label_name n) ≡ true
named_label n h =
    let l : length (decimal n) ≤ 20 = length-decimal-le 20 n (omega arith) (omega arith) h in
    let d = decimal_is_IsNumeral n h in
    let a : length (76 ∷ decimal n) ≤ 32 = omega arith in
    rw (lt-ltb 0 (length (76 ∷ decimal n)) (omega arith), le-leb (length (76 ∷ decimal n)) 32 a, digits_named (decimal n) d.0.1) refl

-- ---- its words are written

written_in : (form : Form) (s : Slot) (d : Datum) → FitsSlot s d → IsWritable (shown_in form s d)
written_in One (slot.Word Target most) (word n) h = number_written Target n h.1
written_in Two (slot.Word Target most) (word n) h = label_written n h.1
written_in form s d h = shown_written s d h

pub words_written : (form : Form) (os : List Operand) → FitOperands os → AllByRecursion IsWritable (words_in form os)
words_written form [] h = tt
words_written form (o ∷ os) h = (written_in form o.slot o.value h.0, words_written form os h.1)

pub text_is_in : (form : Form) (os : List Operand) → operand_text_in form os ≡ spaced_words (words_in form os)
text_is_in form [] = refl
text_is_in form (o ∷ os) = ap (λ t. (32 ∷ word_bytes (shown_in form o.slot o.value)) ++ t) (text_is_in form os)

pub text_is : (os : List Operand) → operand_text os ≡ spaced_words (words_of os)
text_is [] = refl
text_is (o ∷ os) = ap (λ t. (32 ∷ word_bytes (shown o.slot o.value)) ++ t) (text_is os)

-- ---- they say what was printed, where each target's label marks it

-- In the second form the label of a target marks the target.
abbrev pub TargetIsMarked : Form → List Label → Slot → Datum → Type 0
TargetIsMarked One es s d = Unit {0}
TargetIsMarked Two es (slot.Word Target most) (word n) = marked_by (lookup (label_name n) es) ≡ n
TargetIsMarked Two es s d = Unit {0}

-- Of all operands.
abbrev pub TargetsAreMarked : Form → List Label → List Operand → Type 0
TargetsAreMarked form es os = AllByRecursion (λ (o : Operand). TargetIsMarked form es o.slot o.value) os

pub first_marked : (es : List Label) (os : List Operand) → TargetsAreMarked One es os
first_marked es [] = tt
first_marked es (o ∷ os) = (tt, first_marked es os)

shown_one : (s : Slot) (d : Datum) → shown_in One s d ≡ shown s d
shown_one (slot.Word Target most) (word n) = refl
shown_one s d = refl

pub words_one : (os : List Operand) → words_in One os ≡ words_of os
words_one [] = refl
words_one (o ∷ os) = rw (shown_one o.slot o.value, words_one os) refl

here_reads : (es : List Label) (s : Slot) (d : Datum) → FitsSlot s d → TargetIsMarked Two es s d → SpellsHere es s (shown_in Two s d) d
here_reads es (slot.Word Target most) (word n) h m = (label_name n, refl, named_label n h.1, ap word (sym m))
here_reads es (slot.Word Target most) _ h m = absurd h
here_reads es s d h m = shown_reads s d h

all_read : (es : List Label) (os : List Operand) → FitOperands os → TargetsAreMarked Two es os → SpellsAll es (slots_of os) (words_in Two os) (data_of os)
all_read es [] h m = tt
all_read es (o ∷ os) h m = (here_reads es o.slot o.value h.0 m.0, all_read es os h.1 m.1)

pub spelled_in : (form : Form) (es : List Label) (os : List Operand) → FitOperands os → TargetsAreMarked form es os → SpellsInForm form es (slots_of os) (words_in form os) (data_of os)
spelled_in One es os h m = rw (words_one os) (printed_spelled os h)
spelled_in Two es os h m = all_read es os h m
