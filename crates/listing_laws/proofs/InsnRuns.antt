-- A printed instruction is read as that instruction, in both forms.
use Rattle.std.proofs.Common.{◌≡◌, ◌≢◌, ℕ, ◌+◌, ◌<◌, ◌≤◌, ◌^◌, ◌==◌, ◌&&◌, Bool, true, false, inr, List, [], ◌∷◌, ◌++◌, length, Some, refl, sym, ap, subst, ◌∙◌, append_assoc, arith, rules}
use Rattle.std.specs.Prelude.{codes}
use Rattle.std.specs.List.{AllByRecursion, list_all}
use Rattle.std.specs.Fmt.{decimal}
use Rattle.std.specs.Str.Parse.{AllDigits}
use Rattle.std.proofs.lemmas.Fmt.{decimal_is_IsNumeral}
use Rattle.std.proofs.lemmas.Bool.{ne_eqb, and_parts}
use Rattle.dex_insn.specs.declared.opcode.Format.{Format}
use Rattle.dex_insn.specs.declared.opcode.Format.TheVariants as format
use Rattle.dex_insn.specs.Opcodes.{format_of}
use Rattle.dex_insn.specs.Mnemonics.{mnemonics, mnemonic_of, is_mnemonic_byte}
use Rattle.dex_insn.proofs.Rows.{used_named, mnemonic_plain}
use Rattle.program_types.specs.Content as content
use Rattle.program_types.specs.Content.{Insn}
use Rattle.listing_words.specs.Words.{Word, plain_word, IsGraphic}
use Rattle.listing_words.specs.inner.Words.{IsWritable, line_bytes}
use Rattle.listing_words.specs.Numbers.{is_number}
use Rattle.listing_words.proofs.PrintLaws.{line_again}
use Rattle.listing_slots.specs.declared.key.Key.TheVariants as key
use Rattle.listing_slots.specs.declared.slot.Mark.TheVariants.{Nothing}
use Rattle.listing_slots.specs.declared.slot.Slot.TheVariants as slot
use Rattle.listing_slots.specs.Keys.{key_text, same}
use Rattle.listing_slots.specs.Data.{key_word}
use Rattle.listing_slots.proofs.ShownLaws.{shown_written, number_written, digit_range}
use Rattle.listing_lines.specs.Lines.{insn_line}
use Rattle.listing_lines.specs.declared.stage.Stage.{Stage}
use Rattle.listing_lines.specs.declared.stage.Stage.TheVariants.{Insns}
use Rattle.listing_lines.specs.declared.form.Form.{Form}
use Rattle.listing_lines.specs.declared.form.Form.TheVariants.{One, Two}
use Rattle.listing_lines.specs.Places.{may_stand, is_insn, is_insns, is_start}
use Rattle.listing_parse.specs.States.{State, stage_of, insn_count, counted, add}
use Rattle.listing_lines.specs.Splitting.{is_skipped}
use Rattle.listing_lines.specs.Labels.{Label, is_mark, is_stop}
use Rattle.listing_parse.specs.declared.form_line.FormLine.TheVariants as line_of_form
use Rattle.listing_parse.specs.Text.{TakesLine, LineMeans, is_second, line_of_form, labels_after}
use Rattle.listing_print.specs.Operands.{insn_operands, operand_text_in}
use Rattle.listing_print.specs.Printed.{insn_word, insn_text}
use Rattle.listing_print.specs.inner.Reading.{slots_of, data_of, words_in, FitOperands, insn_kind, OpcodeFits}
use Rattle.listing_print.proofs.InsnLaws.{insn_has_shape, insn_has_bare_shape, number_printed, insn_reads, all_at}
use Rattle.listing_laws.proofs.Runs.{RunsTo, frame, at}
use Rattle.listing_laws.proofs.RunLaws.{IsLine, line_runs, line_is, words_line, spaced_words}
use Rattle.listing_laws.proofs.FormWords.{words_written, text_is_in, TargetsAreMarked, spelled_in}
use Rattle.listing_laws.proofs.KeyedLaws.{not_line_of_form, no_line_of_form}
use Rattle.dex_base.proofs.ListFacts.{all_append, not_true}
use Rattle.listing_parse.proofs.FormLineLaws.{not_second}

-- ---- its words are written

mnemonic_byte : (c : ℕ) → is_mnemonic_byte c ≡ true → (45 ≤ c) × (c < 127)
mnemonic_byte c e = grind arith

mnemonic_bytes : (cs : List ℕ) → list_all is_mnemonic_byte cs ≡ true → AllByRecursion IsGraphic cs
mnemonic_bytes [] e = tt
mnemonic_bytes (c ∷ cs) e = let b = mnemonic_byte c (and_parts _ _ e).0 in ((omega arith, b.1), mnemonic_bytes cs (and_parts _ _ e).1)

plain_written : (cs : List ℕ) → cs ≢ [] → list_all is_mnemonic_byte cs ≡ true → IsWritable (plain_word cs)
plain_written [] s e = absurd (s refl)
plain_written (c ∷ cs) s e = let b = mnemonic_byte c (and_parts _ _ e).0 in (omega arith, (λ q. omega arith), mnemonic_bytes (c ∷ cs) e)

mnemonic_written : (op : ℕ) (f : Format) → format_of op ≡ Some f → IsWritable (plain_word (mnemonic_of op))
mnemonic_written op f e = plain_written (mnemonic_of op) (used_named op f e) (mnemonic_plain op)

pub insn_written : (i : Insn) → OpcodeFits i → IsWritable (plain_word (insn_word i))
insn_written (content.I21c op a which) h = mnemonic_written op format.F21c h.0
insn_written (content.I31c op a which) h = mnemonic_written op format.F31c h.0
insn_written (content.I22c op a b which) h = mnemonic_written op format.F22c h.0
insn_written (content.I35c op n regs which) h = mnemonic_written op format.F35c h.0
insn_written (content.I3rc op n first which) h = mnemonic_written op format.F3rc h.0
insn_written (content.Packed first targets) h = shown_written (slot.Key key.Packed) (key_word key.Packed) refl
insn_written (content.Sparse keys targets) h = shown_written (slot.Key key.Sparse) (key_word key.Sparse) refl
insn_written (content.Data width bytes) h = shown_written (slot.Key key.Elements) (key_word key.Elements) refl
insn_written _ h = mnemonic_written _ _ h

after_colon : (w : List ℕ) → IsWritable (plain_word w) → IsWritable (plain_word (w ++ 58 ∷ []))
after_colon [] h = absurd (omega arith)
after_colon (c ∷ cs) h = (omega arith, h.1, all_append IsGraphic (c ∷ cs) (58 ∷ []) h.2 ((omega arith, omega arith), tt))

-- ---- its line

-- the words after its number, which it has in the first form alone
abbrev pub insn_words : Form → ℕ → Insn → List Word
insn_words One k i = plain_word (decimal k ++ 58 ∷ []) ∷ plain_word (insn_word i) ∷ words_in One (insn_operands i)
insn_words Two k i = plain_word (insn_word i) ∷ words_in Two (insn_operands i)

plain_is : (form : Form) (i : Insn) → insn_word i ++ (operand_text_in form (insn_operands i) ++ 10 ∷ []) ≡ (insn_word i ++ spaced_words (words_in form (insn_operands i))) ++ 10 ∷ []
plain_is form i =
    let ws = words_in form (insn_operands i) in
    ap (λ t. insn_word i ++ (t ++ 10 ∷ [])) (text_is_in form (insn_operands i)) ∙ sym (append_assoc (insn_word i) (spaced_words ws) (10 ∷ []))

pub insn_is : (form : Form) (k : ℕ) (i : Insn) → insn_text form k i ≡ line_bytes (insn_words form k i) ++ 10 ∷ []
insn_is One k i =
    let d = decimal k in
    let w = insn_word i in
    let ws = words_in One (insn_operands i) in
    let b = 32 ∷ (w ++ spaced_words ws) in
    ap (λ t. d ++ (58 ∷ 32 ∷ t)) (plain_is One i)
    ∙ sym (append_assoc d (58 ∷ b) (10 ∷ []))
    ∙ ap (λ t. t ++ 10 ∷ []) (sym (append_assoc d (58 ∷ []) b))
    ∙ ap (λ t. t ++ 10 ∷ []) (sym (line_is (plain_word (d ++ 58 ∷ [])) (plain_word w ∷ ws)))
insn_is Two k i = plain_is Two i ∙ ap (λ t. t ++ 10 ∷ []) (sym (line_is (plain_word (insn_word i)) (words_in Two (insn_operands i))))

insn_words_written : (form : Form) (k : ℕ) (i : Insn) → k < 2 ^ 64 → OpcodeFits i → FitOperands (insn_operands i) → AllByRecursion IsWritable (insn_words form k i)
insn_words_written One k i h o f = (after_colon (decimal k) (number_written Nothing k h), (insn_written i o, words_written One (insn_operands i) f))
insn_words_written Two k i h o f = (insn_written i o, words_written Two (insn_operands i) f)

digits_shown : (cs rest : List ℕ) → 0 < length cs → AllDigits 10 cs → is_skipped (cs ++ rest) ≡ false
digits_shown [] rest s h = absurd (omega arith)
digits_shown (c ∷ cs) rest s h =
    let r = digit_range c h.0 in
    let a : c ≢ 32 = λ q. omega arith in
    let b : c ≢ 35 = λ q. omega arith in
    rw (ne_eqb c 32 a, ne_eqb c 35 b) refl

numbered_shown : (k : ℕ) (i : Insn) → k < 2 ^ 64 → is_skipped (line_bytes (insn_words One k i)) ≡ false
numbered_shown k i h =
    let d = decimal_is_IsNumeral k h in
    let b = spaced_words (plain_word (insn_word i) ∷ words_in One (insn_operands i)) in
    ap is_skipped (line_is (plain_word (decimal k ++ 58 ∷ [])) (plain_word (insn_word i) ∷ words_in One (insn_operands i)) ∙ append_assoc (decimal k) (58 ∷ []) b) ∙ digits_shown (decimal k) (58 ∷ b) d.0.0 d.0.1

-- ---- its first word in the second form: no comment, no label, no end of the instructions, and not that of the first line

abbrev not : Bool → Bool
not true = false
not false = true

abbrev begins_other : List ℕ → Bool
begins_other [] = true
begins_other (c ∷ cs) = not (c == 32) && (not (c == 35) && not (c == 58))

abbrev is_other : List ℕ → Bool
is_other m = begins_other m && (not (is_stop m) && not (same (codes "dex") m))

mnemonics_other : list_all is_other mnemonics ≡ true
unfolding mnemonics same key_text
mnemonics_other = refl

empty_other : is_other [] ≡ true
unfolding same key_text
empty_other = refl

mnemonic_other : (op : ℕ) → is_other (mnemonic_of op) ≡ true
mnemonic_other op = all_at is_other mnemonics op mnemonics_other empty_other

insn_other : (i : Insn) → is_other (insn_word i) ≡ true
unfolding same key_text
insn_other (content.Packed first targets) = refl
insn_other _ = search (rules, mnemonic_other)

-- what such a word is not
pub record IsOther (m : List ℕ) : Type 0 where
  pub shown : (rest : List ℕ) → is_skipped (m ++ rest) ≡ false
  pub mark : is_mark m ≡ false
  pub stop : is_stop m ≡ false
  pub first : same (codes "dex") m ≡ false

other_begins : (m : List ℕ) → 0 < length m → begins_other m ≡ true → ((rest : List ℕ) → is_skipped (m ++ rest) ≡ false) × (is_mark m ≡ false)
other_begins [] s e = absurd (omega arith)
other_begins (c ∷ cs) s e =
    let a = and_parts (not (c == 32)) (not (c == 35) && not (c == 58)) e in
    let b = and_parts (not (c == 35)) (not (c == 58)) a.1 in
    ((λ rest. rw (not_true (c == 32) a.0, not_true (c == 35) b.0) refl), not_true (c == 58) b.1)

other_is : (m : List ℕ) → 0 < length m → is_other m ≡ true → IsOther m
other_is m s e =
    let a = and_parts (begins_other m) (not (is_stop m) && not (same (codes "dex") m)) e in
    let b = and_parts (not (is_stop m)) (not (same (codes "dex") m)) a.1 in
    let c = other_begins m s a.0 in
    record { shown = c.0; mark = c.1; stop = not_true (is_stop m) b.0; first = not_true (same (codes "dex") m) b.1 }

pub insn_is_other : (i : Insn) → OpcodeFits i → IsOther (insn_word i)
insn_is_other i o = other_is (insn_word i) (insn_written i o).0 (insn_other i)

pub insn_shown : (form : Form) (k : ℕ) (i : Insn) → k < 2 ^ 64 → OpcodeFits i → is_skipped (line_bytes (insn_words form k i)) ≡ false
insn_shown One k i h o = numbered_shown k i h
insn_shown Two k i h o = ap is_skipped (line_is (plain_word (insn_word i)) (words_in Two (insn_operands i))) ∙ (insn_is_other i o).shown (spaced_words (words_in Two (insn_operands i)))

-- ---- it may stand among instructions

kind_stands : (s : Stage) (i : Insn) → (is_insn (insn_kind i) ≡ true) × (may_stand s (insn_kind i) ≡ is_insns s)
unfolding may_stand
kind_stands s (content.I10x op) = (refl, refl)
kind_stands s _ = (refl, refl)

-- and gives no labels
kind_keeps : (i : Insn) (line : ℕ) (ls : List (List ℕ)) (es : List Label) → labels_after Two (insn_kind i) line ls es ≡ es
kind_keeps (content.I10x op) line ls es = refl
kind_keeps _ line ls es = refl

-- among instructions something was read before
not_start : (st : Stage) → is_insns st ≡ true → is_start st ≡ false
not_start Insns a = refl
not_start _ a = absurd cc

plain_line_of_form : (es : List Label) (s : State) (ws : List Word) → is_start (stage_of s.block) ≡ false → line_of_form (at (frame One es) s) ws ≡ line_of_form.Nothing
unfolding line_of_form
plain_line_of_form es s ws h = rw h (not_line_of_form (is_second ws) (line_of_form.Refused 103))

insn_line_of_form : (form : Form) (es : List Label) (s : State) (k : ℕ) (i : Insn) → OpcodeFits i → is_start (stage_of s.block) ≡ false → line_of_form (at (frame form es) s) (insn_words form k i) ≡ line_of_form.Nothing
insn_line_of_form One es s k i o h = plain_line_of_form es s (insn_words One k i) h
insn_line_of_form Two es s k i o h = let x = insn_is_other i o in no_line_of_form (frame Two es) s (insn_words Two k i) (not_second (insn_word i) (words_in Two (insn_operands i)) x.first) x.mark

-- ---- its shape

insn_reads_so : (form : Form) (es : List Label) (s t : State) (k : ℕ) (i : Insn) (ls : List (List ℕ)) → k < 2 ^ 64 → OpcodeFits i → FitOperands (insn_operands i) → TargetsAreMarked form es (insn_operands i) → is_insns (stage_of s.block) ≡ true
    → insn_count s.block ≡ k → add s (insn_line i) ≡ Some t → LineMeans (at (frame form es) s) ls (insn_words form k i) (at (frame form es) t)
insn_reads_so One es s t k i ls h o f g m e a =
    let os = insn_operands i in
    let ks = kind_stands (stage_of s.block) i in
    let n : is_number (decimal k) (insn_count s.block) ≡ true = ap (is_number (decimal k)) e ∙ number_printed k h in
    record {
      shape = record { kind = insn_kind i; label = decimal k; slots = slots_of os; words = words_in One os };
      has_shape = insn_has_shape k i h o f;
      may_stand = rw (ks.0, ks.1, m, n) refl;
      word_values = data_of os;
      spelled = spelled_in One es os f g;
      next = t;
      added = rw (insn_reads i o) a;
      is = refl;
    }
insn_reads_so Two es s t k i ls h o f g m e a =
    let os = insn_operands i in
    record {
      shape = record { kind = insn_kind i; label = []; slots = slots_of os; words = words_in Two os };
      has_shape = insn_has_bare_shape i o f;
      may_stand = (kind_stands (stage_of s.block) i).1 ∙ m;
      word_values = data_of os;
      spelled = spelled_in Two es os f g;
      next = t;
      added = rw (insn_reads i o) a;
      is = rw (kind_keeps i (s.lines + 1) ls es) refl;
    }

insn_taken : (form : Form) (es : List Label) (s t : State) (k : ℕ) (i : Insn) → k < 2 ^ 64 → OpcodeFits i → FitOperands (insn_operands i) → TargetsAreMarked form es (insn_operands i) → is_insns (stage_of s.block) ≡ true
    → insn_count s.block ≡ k → add (counted s) (insn_line i) ≡ Some t → (ls : List (List ℕ)) → TakesLine (at (frame form es) s) ls (line_bytes (insn_words form k i)) (at (frame form es) t)
insn_taken form es s t k i h o f g m e a ls =
    inr (
      insn_shown form k i h o,
      record {
        words = insn_words form k i;
        has_words = line_again (insn_words form k i) (insn_words_written form k i h o f);
        makes = inr (inr (insn_line_of_form form es (counted s) k i o (not_start (stage_of s.block) m), insn_reads_so form es (counted s) t k i ls h o f g m e a));
      },
    )

insn_is_line : (form : Form) (k : ℕ) (i : Insn) → AllByRecursion IsWritable (insn_words form k i) → IsLine (line_bytes (insn_words form k i))
insn_is_line One k i w = words_line (plain_word (decimal k ++ 58 ∷ [])) (plain_word (insn_word i) ∷ words_in One (insn_operands i)) w.0 w.1
insn_is_line Two k i w = words_line (plain_word (insn_word i)) (words_in Two (insn_operands i)) w.0 w.1

pub insn_line_is : (form : Form) (k : ℕ) (i : Insn) → k < 2 ^ 64 → OpcodeFits i → FitOperands (insn_operands i) → IsLine (line_bytes (insn_words form k i))
insn_line_is form k i h o f = insn_is_line form k i (insn_words_written form k i h o f)

pub insn_runs : (form : Form) (es : List Label) (s t : State) (k : ℕ) (i : Insn) → k < 2 ^ 64 → OpcodeFits i → FitOperands (insn_operands i) → TargetsAreMarked form es (insn_operands i) → is_insns (stage_of s.block) ≡ true → insn_count s.block ≡ k
    → add (counted s) (insn_line i) ≡ Some t → RunsTo (frame form es) s (insn_text form k i) t
insn_runs form es s t k i h o f g m e a =
    let r = frame form es in
    subst (λ (text : List ℕ). RunsTo r s text t) (sym (insn_is form k i)) (line_runs r r s t (line_bytes (insn_words form k i)) (insn_line_is form k i h o f) (insn_taken form es s t k i h o f g m e a))
