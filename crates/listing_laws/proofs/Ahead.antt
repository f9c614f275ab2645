-- The labels ahead of the printed instructions of a code are those that were printed.
use Rattle.std.proofs.Common.{◌≡◌, ◌≢◌, ℕ, ◌+◌, ◌<◌, ◌≤◌, ◌^◌, if◌then◌else◌, true, false, inl, inr, List, [], ◌∷◌, ◌++◌, length, Some, None, refl, sym, ap, ◌∙◌, append_assoc, arith}
use Rattle.std.specs.Fmt.{decimal}
use Rattle.std.specs.Str.Parse.{digits_value}
use Rattle.std.proofs.lemmas.Fmt.{decimal_is_IsNumeral}
use Rattle.std.proofs.lemmas.Bool.{cases_eq, false_from_ne_true}
use Rattle.std.proofs.lemmas.List.{append-nil}
use Rattle.program_types.specs.Content.{Insn}
use Rattle.listing_words.specs.Words.{Word, plain_word, up_to_space}
use Rattle.listing_words.specs.inner.Words.{IsWritable, line_bytes}
use Rattle.listing_slots.specs.Keys.{key_text, same}
use Rattle.listing_slots.proofs.ShownLaws.{same_refl}
use Rattle.listing_lines.specs.declared.form.Form.TheVariants.{Two}
use Rattle.listing_lines.specs.Splitting.{lines}
use Rattle.listing_lines.specs.Labels.{Label, lookup, with_label, first_word, is_stop, is_mark, labels_ahead}
use Rattle.listing_lines.proofs.AheadLaws.{ahead_marks, ahead_counts}
use Rattle.listing_print.specs.Operands.{insn_operands, label_name}
use Rattle.listing_print.specs.Printed.{insn_word, insn_text, label_text}
use Rattle.listing_print.specs.Canon.{is_named, label_if_named, insns_text}
use Rattle.listing_print.specs.inner.Reading.{words_in, FitOperands, OpcodeFits}
use Rattle.listing_laws.proofs.Printable.{InstructionsFit}
use Rattle.listing_laws.proofs.RunLaws.{IsLine, line_first, line_is, graphic_line, spaced_words}
use Rattle.listing_laws.proofs.FormWords.{label_written}
use Rattle.listing_laws.proofs.InsnRuns.{insn_words, insn_is, insn_is_other, insn_line_is, insn_written, insn_shown}
use Rattle.listing_words.proofs.PrintLaws.{starts, up_to_end}
use Rattle.dex_base.proofs.ListFacts.{by_kind}
use Rattle.listing_slots.proofs.KeyLaws.{same_true}
use Rattle.listing_lines.proofs.LookLaws.{look_after, with_new}

-- ---- the labels that are printed

-- The label of instruction k, after n lines.
abbrev pub label_of : ℕ → ℕ → Label
label_of n k = record { name = label_name k; line = n + 1; number = k }

-- It, if instruction k is named.
abbrev pub marked : List ℕ → ℕ → ℕ → List Label
marked ns n k = if is_named ns k then label_of n k ∷ [] else []

-- So many lines stand before what follows it.
abbrev pub past_mark : List ℕ → ℕ → ℕ → ℕ
past_mark ns n k = if is_named ns k then n + 1 else n

-- The labels of these instructions, of which number k is the first, after n lines.
abbrev pub labels_from : List ℕ → ℕ → ℕ → List Insn → List Label
labels_from ns n k [] = marked ns n k
labels_from ns n k (i ∷ is) = marked ns n k ++ labels_from ns (past_mark ns n k + 1) (k + 1) is

-- None of these labels is that of instruction k or of a later one.
abbrev pub AreBefore : List Label → ℕ → Type 0
AreBefore es k = (j : ℕ) → k ≤ j → j < 2 ^ 64 → lookup (label_name j) es ≡ None

-- ---- labels of different numbers differ

after_two : (c d : ℕ) (a b : List ℕ) → c ∷ d ∷ a ≡ c ∷ d ∷ b → a ≡ b
after_two c d a b e = cc

names_same : (j k : ℕ) → j < 2 ^ 64 → k < 2 ^ 64 → label_name j ≡ label_name k → j ≡ k
names_same j k h g e =
    sym (decimal_is_IsNumeral j h).1 ∙ ap (digits_value 10) (after_two 58 76 (decimal j) (decimal k) e) ∙ (decimal_is_IsNumeral k g).1

names_differ : (j k : ℕ) → j < 2 ^ 64 → k < 2 ^ 64 → j ≢ k → same (label_name j) (label_name k) ≡ false
names_differ j k h g n = false_from_ne_true (same (label_name j) (label_name k)) (λ e. n (names_same j k h g (same_true (label_name j) (label_name k) e)))

pub none_before : (k : ℕ) → AreBefore [] k
none_before k j l h = refl

pub before_more : (ns : List ℕ) (es : List Label) (n k : ℕ) → AreBefore es k → k < 2 ^ 64 → AreBefore (es ++ marked ns n k) (k + 1)
before_more ns es n k h g j l m = elim (by_kind (is_named ns k)) [
  | inl y ↦ rw y (look_after (label_name j) es (label_of n k ∷ []) (h j (omega arith) m) ∙ rw (names_differ j k m g (λ e. omega arith)) refl)
  | inr x ↦ rw x (ap (lookup (label_name j)) (append-nil es) ∙ h j (omega arith) m)
]

-- ---- the label of a named instruction is found

pub found_here : (ns : List ℕ) (es fs : List Label) (n k : ℕ) → AreBefore es k → k < 2 ^ 64 → is_named ns k ≡ true → lookup (label_name k) (es ++ (marked ns n k ++ fs)) ≡ Some (label_of n k)
found_here ns es fs n k h g y = rw y (look_after (label_name k) es (label_of n k ∷ fs) (h k (omega arith) g) ∙ rw (same_refl (label_name k)) refl)

found_last : (ns : List ℕ) (es : List Label) (n k : ℕ) → AreBefore es k → k < 2 ^ 64 → is_named ns k ≡ true → lookup (label_name k) (es ++ marked ns n k) ≡ Some (label_of n k)
found_last ns es n k h g y = ap (λ fs. lookup (label_name k) (es ++ fs)) (sym (append-nil (marked ns n k))) ∙ found_here ns es [] n k h g y

-- The first of these labels.
pub found_first : (ns : List ℕ) (is : List Insn) (es : List Label) (n k : ℕ) → AreBefore es k → k < 2 ^ 64 → is_named ns k ≡ true → lookup (label_name k) (es ++ labels_from ns n k is) ≡ Some (label_of n k)
found_first ns [] es n k h g y = found_last ns es n k h g y
found_first ns (i ∷ is) es n k h g y = found_here ns es (labels_from ns (past_mark ns n k + 1) (k + 1) is) n k h g y

-- Each of them.
pub found_each : (ns : List ℕ) (is : List Insn) (es : List Label) (n k j : ℕ) → AreBefore es k → k + length is < 2 ^ 64 → is_named ns j ≡ true → k ≤ j → j ≤ k + length is
    → (l : Label) × (lookup (label_name j) (es ++ labels_from ns n k is) ≡ Some l) × (l.number ≡ j)
found_each ns [] es n k j h g y a b = let e : j ≡ k = omega arith in let z : is_named ns k ≡ true = rw e at y in (label_of n k, rw e (found_last ns es n k h (omega arith) z), sym e)
found_each ns (i ∷ is) es n k j h g y a b = elim (cases_eq j k) [
  | inl e ↦ let z : is_named ns k ≡ true = rw e at y in (label_of n k, rw e (found_first ns (i ∷ is) es n k h (omega arith) z), sym e)
  | inr d ↦
      let r = found_each ns is (es ++ marked ns n k) (past_mark ns n k + 1) (k + 1) j (before_more ns es n k h (omega arith)) (omega arith) y (omega arith) (omega arith) in
      (r.0, ap (lookup (label_name j)) (sym (append_assoc es (marked ns n k) (labels_from ns (past_mark ns n k + 1) (k + 1) is))) ∙ r.1, r.2)
]

-- ---- the first word of a line

spaces_stop : (ws : List Word) → up_to_space (spaced_words ws) ≡ []
spaces_stop [] = refl
spaces_stop (w ∷ ws) = refl

pub word_first : (m : List ℕ) (ws : List Word) → IsWritable (plain_word m) → first_word (line_bytes (plain_word m ∷ ws)) ≡ m
word_first m ws w =
    ap first_word (line_is (plain_word m) ws) ∙ ap up_to_space (starts m (spaced_words ws) w.0 w.2) ∙ up_to_end m (spaced_words ws) w.2 (spaces_stop ws)

-- ---- labels ahead, line by line

label_first : (k : ℕ) → k < 2 ^ 64 → first_word (label_name k) ≡ label_name k
label_first k h = word_first (label_name k) [] (label_written k h)

pub label_is_line : (k : ℕ) → k < 2 ^ 64 → IsLine (label_name k)
label_is_line k h = graphic_line (label_name k) (label_written k h).2

label_no_stop : (k : ℕ) → is_stop (label_name k) ≡ false
unfolding same key_text
label_no_stop k = refl

named_ahead : (es : List Label) (n k : ℕ) (text : List ℕ) → lookup (label_name k) es ≡ None → k < 2 ^ 64 → labels_ahead es (n + 1) k (lines (label_text k ++ text)) ≡ labels_ahead (es ++ label_of n k ∷ []) (n + 1 + 1) k (lines text)
named_ahead es n k text h g =
    let w = label_first k g in
    let e : lines (label_text k ++ text) ≡ label_name k ∷ lines text = ap lines (append_assoc (label_name k) (10 ∷ []) text) ∙ line_first (label_name k) text (label_is_line k g) in
    ap (labels_ahead es (n + 1) k) e
    ∙ ahead_marks es (n + 1) k (label_name k) (lines text) refl (ap is_stop w ∙ label_no_stop k) (ap is_mark w)
    ∙ ap (λ name. labels_ahead (with_label es (record { name = name; line = n + 1; number = k })) (n + 1 + 1) k (lines text)) w
    ∙ ap (λ fs. labels_ahead fs (n + 1 + 1) k (lines text)) (with_new es (label_of n k) h)

mark_ahead : (ns : List ℕ) (es : List Label) (n k : ℕ) (text : List ℕ) → lookup (label_name k) es ≡ None → k < 2 ^ 64
    → labels_ahead es (n + 1) k (lines (label_if_named Two ns k ++ text)) ≡ labels_ahead (es ++ marked ns n k) (past_mark ns n k + 1) k (lines text)
mark_ahead ns es n k text h g = elim (by_kind (is_named ns k)) [
  | inl y ↦ rw y (named_ahead es n k text h g)
  | inr x ↦ rw x (ap (λ fs. labels_ahead fs (n + 1) k (lines text)) (sym (append-nil es)))
]

insn_ahead : (es : List Label) (line k : ℕ) (i : Insn) (text : List ℕ) → k < 2 ^ 64 → OpcodeFits i → FitOperands (insn_operands i) → labels_ahead es line k (lines (insn_text Two k i ++ text)) ≡ labels_ahead es (line + 1) (k + 1) (lines text)
insn_ahead es line k i text h o f =
    let l = line_bytes (insn_words Two k i) in
    let x = insn_is_other i o in
    let w : first_word l ≡ insn_word i = word_first (insn_word i) (words_in Two (insn_operands i)) (insn_written i o) in
    let e : lines (insn_text Two k i ++ text) ≡ l ∷ lines text = ap (λ t. lines (t ++ text)) (insn_is Two k i) ∙ ap lines (append_assoc l (10 ∷ []) text) ∙ line_first l text (insn_line_is Two k i h o f) in
    ap (labels_ahead es line k) e ∙ ahead_counts es line k l (lines text) (insn_shown Two k i h o) (ap is_stop w ∙ x.stop) (ap is_mark w ∙ x.mark)

-- Of all instructions, in front of what ends them.
pub insns_ahead : (ns : List ℕ) (is : List Insn) (es : List Label) (n k c : ℕ) (text : List ℕ) → AreBefore es k → k + length is < 2 ^ 64 → InstructionsFit c is → ((fs : List Label) (line j : ℕ) → labels_ahead fs line j (lines text) ≡ fs)
    → labels_ahead es (n + 1) k (lines (insns_text Two ns k is ++ text)) ≡ es ++ labels_from ns n k is
insns_ahead ns [] es n k c text h g f stop = mark_ahead ns es n k text (h k (omega arith) (omega arith)) (omega arith) ∙ stop (es ++ marked ns n k) (past_mark ns n k + 1) k
insns_ahead ns (i ∷ is) es n k c text h g f stop =
    let a = label_if_named Two ns k in
    let b = insn_text Two k i in
    let d = insns_text Two ns (k + 1) is in
    let p = past_mark ns n k in
    let fs = es ++ marked ns n k in
    ap (λ t. labels_ahead es (n + 1) k (lines t)) (append_assoc a (b ++ d) text ∙ ap (λ t. a ++ t) (append_assoc b d text))
    ∙ mark_ahead ns es n k (b ++ (d ++ text)) (h k (omega arith) (omega arith)) (omega arith)
    ∙ insn_ahead fs (p + 1) k i (d ++ text) (omega arith) f.0.0 f.0.1
    ∙ insns_ahead ns is fs (p + 1) (k + 1) c text (before_more ns es n k h (omega arith)) (omega arith) f.1 stop
    ∙ append_assoc es (marked ns n k) (labels_from ns (p + 1) (k + 1) is)
