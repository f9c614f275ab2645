-- A printed instruction has its shape, and its slots say the instruction.
use Rattle.std.proofs.Common.{◌≡◌, ℕ, ℤ, zero, suc, ◌-◌, ◌*◌, ◌<◌, ◌≤◌, ◌^◌, Bool, true, false, inl, inr, List, [], ◌∷◌, ◌++◌, length, get_or, map, take, drop, replicate, Option, Some, None, refl, sym, ap, ◌∙◌, arith, rules}
use Rattle.std.specs.List.{list_all}
use Rattle.std.specs.Fmt.{decimal}
use Rattle.std.proofs.lemmas.Bool.{eq-eqb, and_parts}
use Rattle.std.proofs.lemmas.List.{length-take}
use Rattle.dex_insn.specs.declared.opcode.Format.{Format}
use Rattle.dex_insn.specs.declared.opcode.Format.TheVariants as format
use Rattle.dex_insn.specs.Opcodes.{format_of, index_kind_of}
use Rattle.dex_insn.specs.Mnemonics.{mnemonics, mnemonic_of}
use Rattle.dex_insn.proofs.Rows.{used_named}
use Rattle.program_types.specs.Content as content
use Rattle.program_types.specs.Content.{Insn, Name, OfText}
use Rattle.listing_words.specs.Words.{Word, plain_word}
use Rattle.listing_words.specs.Numbers.{is_number}
use Rattle.listing_words.proofs.NaturalLaws.{spelled_natural, number_found}
use Rattle.listing_slots.specs.declared.kind.Kind.TheVariants as kind
use Rattle.listing_slots.specs.declared.key.Key.{Key}
use Rattle.listing_slots.specs.declared.key.Key.TheVariants as key
use Rattle.listing_slots.specs.declared.slot.Mark.TheVariants.{Nothing}
use Rattle.listing_slots.specs.declared.slot.Slot.{Slot}
use Rattle.listing_slots.specs.declared.slot.Slot.TheVariants as slot
use Rattle.listing_slots.specs.Keys.{key_text, same, find_key, lead_keys, payload_keys}
use Rattle.listing_slots.specs.Data.{Datum, named, byte_of, half_of, word_of, tiny_of, short_of, int_of, long_of, elements_of, name_of}
use Rattle.listing_slots.specs.Shapes.{Row, HasShape, HasBareShape, BeginsWithInsn, IsInsnRow, payload_row, plain_slots, name_slot, before_close, pairs, target, register4, register8, register16}
use Rattle.listing_slots.proofs.ShapeLaws.{labelled_shape}
use Rattle.listing_lines.specs.declared.form.Form.{Form}
use Rattle.listing_lines.specs.declared.form.Form.TheVariants.{One, Two}
use Rattle.listing_lines.specs.Lines.{insn_line, line_of, insn_of, alternate}
use Rattle.listing_print.specs.Operands.{Operand, keyword, v4, to, name_operand, pair_operands, insn_operands}
use Rattle.listing_print.specs.Printed.{insn_word}
use Rattle.listing_print.specs.inner.Reading.{slots_of, data_of, words_in, FitOperands, insn_kind, IsNameOfOpcode, OpcodeFits}
use Rattle.listing_print.proofs.PrintedLaws.{forms_in, join_in, slots_join}
use Rattle.listing_slots.proofs.ShownLaws.{natural_printed}

-- the row of an opcode, where its operands are these
plain_row : (op : ℕ) (f : Format) (ws : List Word) (ss : List Slot) → format_of op ≡ Some f → ss ≡ plain_slots (Some f) (index_kind_of op) ws → IsInsnRow (mnemonic_of op) ws (kind.Plain op, ss)
plain_row op f ws ss e g = inl (op, record { used = used_named op f e; is = refl }, ap (λ (x : List Slot). (kind.Plain op, x)) (g ∙ ap (λ (o : Option Format). plain_slots o (index_kind_of op) ws) (sym e)))

-- ---- braces

regs_before : (form : Form) (rs : List ℕ) (most : ℕ) (w : Word) → length rs ≤ most → before_close most (words_in form (map v4 rs) ++ (plain_word (key_text key.Close) ∷ w ∷ [])) ≡ length rs
unfolding before_close same key_text
regs_before form [] zero w h = refl
regs_before form [] (suc most) w h = refl
regs_before form (r ∷ rs) zero w h = absurd (omega arith)
regs_before form (r ∷ rs) (suc most) w h = let i = regs_before form rs most w (omega arith) in omega (arith, i)

regs_slots : (rs : List ℕ) → slots_of (map v4 rs) ≡ replicate (length rs) register4
regs_slots [] = refl
regs_slots (r ∷ rs) = ap (λ ss. register4 ∷ ss) (regs_slots rs)

-- the operands in braces
abbrev braces : List ℕ → Operand → List Operand
braces rs o = keyword key.Open ∷ (map v4 rs ++ (keyword key.Close ∷ o ∷ []))

brace_slots : (form : Form) (op : ℕ) (rs : List ℕ) (o : Operand) → length rs ≤ 5 → o.slot ≡ name_slot (index_kind_of op) → slots_of (braces rs o) ≡ plain_slots (Some format.F35c) (index_kind_of op) (words_in form (braces rs o))
brace_slots form op rs o h e =
    let w = join_in form (map v4 rs) (keyword key.Close ∷ o ∷ []) in
    let b : before_close 5 (words_in form (map v4 rs ++ (keyword key.Close ∷ o ∷ []))) ≡ length rs = ap (before_close 5) w ∙ regs_before form rs 5 _ h in
    let s : slots_of (map v4 rs ++ (keyword key.Close ∷ o ∷ [])) ≡ replicate (length rs) register4 ++ (slot.Key key.Close ∷ name_slot (index_kind_of op) ∷ []) =
    slots_join (map v4 rs) (keyword key.Close ∷ o ∷ []) ∙ ap (λ ss. ss ++ (slot.Key key.Close ∷ o.slot ∷ [])) (regs_slots rs) ∙ ap (λ x. replicate (length rs) register4 ++ (slot.Key key.Close ∷ x ∷ [])) e in
    ap (λ ss. slot.Key key.Open ∷ ss) (s ∙ ap (λ n. replicate n register4 ++ (slot.Key key.Close ∷ name_slot (index_kind_of op) ∷ [])) (sym b))

-- ---- targets and pairs

targets_slots : (form : Form) (ts : List ℕ) → slots_of (map to ts) ≡ replicate (length (words_in form (map to ts))) target
targets_slots form [] = refl
targets_slots form (t ∷ ts) = ap (λ ss. target ∷ ss) (targets_slots form ts)

targets_read : (ts : List ℕ) → map word_of (data_of (map to ts)) ≡ ts
unfolding word_of
targets_read [] = refl
targets_read (t ∷ ts) = ap (λ ns. t ∷ ns) (targets_read ts)

pairs_slots : (ks : List ℤ) (ts : List ℕ) → length ks ≡ length ts → slots_of (pair_operands ks ts) ≡ pairs (length ks)
unfolding pairs
pairs_slots [] [] e = refl
pairs_slots (k ∷ ks) (t ∷ ts) e = ap (λ ss. slot.Int ∷ target ∷ ss) (pairs_slots ks ts (omega arith))
pairs_slots _ _ e = absurd (omega arith)

pairs_length : (form : Form) (ks : List ℤ) (ts : List ℕ) → length ks ≡ length ts → length (words_in form (pair_operands ks ts)) ≡ 2 * length ks
pairs_length form [] [] e = refl
pairs_length form (k ∷ ks) (t ∷ ts) e = let i = pairs_length form ks ts (omega arith) in omega arith
pairs_length form _ _ e = absurd (omega arith)

keys_read : (ks : List ℤ) (ts : List ℕ) → length ks ≡ length ts → map int_of (alternate (data_of (pair_operands ks ts))) ≡ ks
unfolding alternate int_of
keys_read [] [] e = refl
keys_read (k ∷ ks) (t ∷ ts) e = ap (λ zs. k ∷ zs) (keys_read ks ts (omega arith))
keys_read _ _ e = absurd (omega arith)

next_alternate : (d : Datum) (ds : List Datum) → alternate (d ∷ ds) ≡ d ∷ alternate (drop 1 ds)
unfolding alternate
next_alternate d [] = refl
next_alternate d (x ∷ ds) = refl

pair_targets_read : (ks : List ℤ) (ts : List ℕ) → length ks ≡ length ts → map word_of (alternate (drop 1 (data_of (pair_operands ks ts)))) ≡ ts
unfolding alternate word_of
pair_targets_read [] [] e = refl
pair_targets_read (k ∷ ks) (t ∷ ts) e = ap (map word_of) (next_alternate _ (data_of (pair_operands ks ts))) ∙ ap (λ ns. t ∷ ns) (pair_targets_read ks ts (omega arith))
pair_targets_read _ _ e = absurd (omega arith)

-- the row of a payload
key_row_of : (k : Key) (ws : List Word) (r : Row) → Some k ≡ find_key payload_keys (key_text k) → Some r ≡ payload_row k ws → IsInsnRow (key_text k) ws r
key_row_of k ws r e f = inr (k, e, f)

data_row : (form : Form) (width : ℕ) (bytes : List ℕ) → Some (kind.Elements, slots_of (insn_operands (content.Data width bytes))) ≡ payload_row key.Elements (words_in form (insn_operands (content.Data width bytes)))
unfolding payload_row
data_row form width [] = refl
data_row form width (b ∷ bytes) = refl

named_slots : (op : ℕ) (which : Name) (front : List Slot) → IsNameOfOpcode op which → front ++ ((name_operand which).slot ∷ []) ≡ front ++ (name_slot (index_kind_of op) ∷ [])
named_slots op which front e = ap (λ s. front ++ (s ∷ [])) e

-- the row of an instruction, in both forms
pub insn_row : (form : Form) (i : Insn) → OpcodeFits i → IsInsnRow (insn_word i) (words_in form (insn_operands i)) (insn_kind i, slots_of (insn_operands i))
unfolding payload_row find_key same key_text
insn_row form (content.I21c op a which) h = plain_row op format.F21c _ _ h.0 (named_slots op which (register8 ∷ []) h.1)
insn_row form (content.I31c op a which) h = plain_row op format.F31c _ _ h.0 (named_slots op which (register8 ∷ []) h.1)
insn_row form (content.I22c op a b which) h = plain_row op format.F22c _ _ h.0 (named_slots op which (register4 ∷ register4 ∷ []) h.1)
insn_row form (content.I3rc op n first which) h = plain_row op format.F3rc _ _ h.0 (named_slots op which (register16 ∷ slot.Byte Nothing 255 ∷ []) h.1)
insn_row form (content.I35c op n regs which) h =
    let l : length (take n regs) ≤ 5 = (let a = length-take n regs in let b = h.2 in omega arith) in
    plain_row op format.F35c _ _ h.0 (brace_slots form op (take n regs) (name_operand which) l h.1)
insn_row form (content.Packed first targets) h = key_row_of key.Packed _ _ refl (ap (λ ss. Some (kind.Packed, slot.Int ∷ ss)) (targets_slots form targets ∙ ap (λ n. replicate n target) (let z : length (words_in form (map to targets)) ≡ suc (length (words_in form (map to targets))) - 1 = omega arith in z)))
insn_row form (content.Sparse keys targets) h = key_row_of key.Sparse _ _ refl (ap (λ ss. Some (kind.Sparse, ss)) (pairs_slots keys targets h ∙ ap pairs (let z = pairs_length form keys targets h in omega arith)))
insn_row form (content.Data width bytes) h = key_row_of key.Elements _ _ refl (data_row form width bytes)
insn_row form _ h = plain_row _ _ _ _ h refl

-- ---- what the slots say

plain_reads : (op : ℕ) (f : Format) (ds : List Datum) (i : Insn) → format_of op ≡ Some f → insn_of (Some f) op ds ≡ i → line_of (kind.Plain op) ds ≡ insn_line i
unfolding line_of
plain_reads op f ds i e g = ap (λ (o : Option Format). insn_line (insn_of o op ds)) e ∙ ap insn_line g

name_reads : (which : Name) → (name_operand which).value ≡ named which
name_reads (OfText us) = refl
name_reads _ = refl

brace_reads : (op n a b c d e : ℕ) (which : Name) → n ≤ 5 → drop n (a ∷ b ∷ c ∷ d ∷ e ∷ []) ≡ replicate (5 - n) 0 → insn_of (Some format.F35c) op (data_of (braces (take n (a ∷ b ∷ c ∷ d ∷ e ∷ [])) (name_operand which))) ≡ content.I35c op n (a ∷ b ∷ c ∷ d ∷ e ∷ []) which
unfolding insn_of byte_of name_of
brace_reads op zero a b c d e which l h = let i : a ≡ 0 = cc in let j : b ≡ 0 = cc in let k : c ≡ 0 = cc in let m : d ≡ 0 = cc in let o : e ≡ 0 = cc in rw (i, j, k, m, o, name_reads which) refl
brace_reads op (suc zero) a b c d e which l h = let j : b ≡ 0 = cc in let k : c ≡ 0 = cc in let m : d ≡ 0 = cc in let o : e ≡ 0 = cc in rw (j, k, m, o, name_reads which) refl
brace_reads op (suc (suc zero)) a b c d e which l h = let k : c ≡ 0 = cc in let m : d ≡ 0 = cc in let o : e ≡ 0 = cc in rw (k, m, o, name_reads which) refl
brace_reads op (suc (suc (suc zero))) a b c d e which l h = let m : d ≡ 0 = cc in let o : e ≡ 0 = cc in rw (m, o, name_reads which) refl
brace_reads op (suc (suc (suc (suc zero)))) a b c d e which l h = let o : e ≡ 0 = cc in rw (o, name_reads which) refl
brace_reads op (suc (suc (suc (suc (suc zero))))) a b c d e which l h = rw (name_reads which) refl
brace_reads op (suc (suc (suc (suc (suc (suc n)))))) a b c d e which l h = absurd (omega arith)

call_reads : (op n : ℕ) (regs : List ℕ) (which : Name) → n ≤ 5 → length regs ≡ 5 → drop n regs ≡ replicate (5 - n) 0 → insn_of (Some format.F35c) op (data_of (braces (take n regs) (name_operand which))) ≡ content.I35c op n regs which
call_reads op n (a ∷ b ∷ c ∷ d ∷ e ∷ []) which l f h = brace_reads op n a b c d e which l h
call_reads op n _ which l f h = absurd (omega arith)

data_reads : (width : ℕ) (bytes : List ℕ) → line_of kind.Elements (data_of (insn_operands (content.Data width bytes))) ≡ insn_line (content.Data width bytes)
unfolding line_of half_of elements_of
data_reads width [] = refl
data_reads width (b ∷ bytes) = refl

packed_reads : (first : ℤ) (targets : List ℕ) → line_of kind.Packed (data_of (insn_operands (content.Packed first targets))) ≡ insn_line (content.Packed first targets)
unfolding line_of int_of
packed_reads first targets = ap (λ ts. insn_line (content.Packed first ts)) (targets_read targets)

sparse_reads : (keys : List ℤ) (targets : List ℕ) → length keys ≡ length targets → line_of kind.Sparse (data_of (insn_operands (content.Sparse keys targets))) ≡ insn_line (content.Sparse keys targets)
unfolding line_of
sparse_reads keys targets e = ap (λ ks. insn_line (content.Sparse ks (map word_of (alternate (drop 1 (data_of (pair_operands keys targets))))))) (keys_read keys targets e) ∙ ap (λ ts. insn_line (content.Sparse keys ts)) (pair_targets_read keys targets e)

pub insn_reads : (i : Insn) → OpcodeFits i → line_of (insn_kind i) (data_of (insn_operands i)) ≡ insn_line i
unfolding insn_of byte_of half_of word_of tiny_of short_of int_of long_of name_of
insn_reads (content.I21c op a which) h = plain_reads op format.F21c _ _ h.0 (rw (name_reads which) refl)
insn_reads (content.I31c op a which) h = plain_reads op format.F31c _ _ h.0 (rw (name_reads which) refl)
insn_reads (content.I22c op a b which) h = plain_reads op format.F22c _ _ h.0 (rw (name_reads which) refl)
insn_reads (content.I3rc op n first which) h = plain_reads op format.F3rc _ _ h.0 (rw (name_reads which) refl)
insn_reads (content.I35c op n regs which) h = plain_reads op format.F35c _ _ h.0 (call_reads op n regs which h.2 h.3 h.4)
insn_reads (content.Packed first targets) h = packed_reads first targets
insn_reads (content.Sparse keys targets) h = sparse_reads keys targets h
insn_reads (content.Data width bytes) h = data_reads width bytes
insn_reads _ h = plain_reads _ _ _ _ h refl

-- ---- the number of an instruction

pub number_printed : (k : ℕ) → k < 2 ^ 64 → is_number (decimal k) k ≡ true
number_printed k h = sym (number_found (decimal k) k k (natural_printed k h)) ∙ eq-eqb k k refl

begins : (form : Form) (i : Insn) → OpcodeFits i → FitOperands (insn_operands i) → BeginsWithInsn (plain_word (insn_word i) ∷ words_in form (insn_operands i)) (insn_kind i, slots_of (insn_operands i))
begins form i f o = record { text = insn_word i; after = words_in form (insn_operands i); words = refl; has_row = insn_row form i f; forms = forms_in form (insn_operands i) o }

pub insn_has_shape : (k : ℕ) (i : Insn) → k < 2 ^ 64 → OpcodeFits i → FitOperands (insn_operands i)
    → HasShape (plain_word (decimal k ++ 58 ∷ []) ∷ plain_word (insn_word i) ∷ words_in One (insn_operands i)) (record { kind = insn_kind i; label = decimal k; slots = slots_of (insn_operands i); words = words_in One (insn_operands i) })
insn_has_shape k i h f o =
    labelled_shape (plain_word (decimal k ++ 58 ∷ []) ∷ plain_word (insn_word i) ∷ words_in One (insn_operands i)) (plain_word (insn_word i) ∷ words_in One (insn_operands i)) (decimal k ++ 58 ∷ []) (decimal k) (insn_kind i, slots_of (insn_operands i)) refl refl
    (spelled_natural (decimal k) k (natural_printed k h)).0 (begins One i f o)

-- ---- a mnemonic begins no other line

abbrev is_none : Option Key → Bool
is_none None = true
is_none (Some k) = false

none_is : (o : Option Key) → is_none o ≡ true → None ≡ o
none_is None e = refl
none_is (Some k) e = absurd cc

pub all_at : (P : List ℕ → Bool) (xs : List (List ℕ)) (i : ℕ) → list_all P xs ≡ true → P [] ≡ true → P (get_or xs i []) ≡ true
all_at P [] i a e = e
all_at P (x ∷ xs) zero a e = (and_parts (P x) (list_all P xs) a).0
all_at P (x ∷ xs) (suc i) a e = all_at P xs i (and_parts (P x) (list_all P xs) a).1 e

mnemonics_free : list_all (λ m. is_none (find_key lead_keys m)) mnemonics ≡ true
unfolding mnemonics find_key same key_text
mnemonics_free = refl

empty_free : is_none (find_key lead_keys []) ≡ true
unfolding find_key same key_text
empty_free = refl

mnemonic_free : (op : ℕ) → None ≡ find_key lead_keys (mnemonic_of op)
mnemonic_free op = none_is (find_key lead_keys (mnemonic_of op)) (all_at (λ m. is_none (find_key lead_keys m)) mnemonics op mnemonics_free empty_free)

pub insn_free : (i : Insn) → None ≡ find_key lead_keys (insn_word i)
unfolding find_key same key_text
insn_free (content.Packed first targets) = refl
insn_free _ = search (rules, mnemonic_free)

pub insn_has_bare_shape : (i : Insn) → OpcodeFits i → FitOperands (insn_operands i)
    → HasBareShape (plain_word (insn_word i) ∷ words_in Two (insn_operands i)) (record { kind = insn_kind i; label = []; slots = slots_of (insn_operands i); words = words_in Two (insn_operands i) })
insn_has_bare_shape i f o =
    inl (record { text = insn_word i; after = words_in Two (insn_operands i); words = refl; no_lead = insn_free i; row = (insn_kind i, slots_of (insn_operands i)); insn = begins Two i f o; is = refl })
