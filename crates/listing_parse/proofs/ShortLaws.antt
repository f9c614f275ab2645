-- An instruction's line that is read from its front to its end: what it says word by word, it says as a line.
use Rattle.std.proofs.Common.{◌≡◌, ◌≢◌, ℕ, ℤ, pos, negsuc, FitsSigned, w8, w16, w32, w64, rules, zero, suc, ◌+◌, ◌-◌, ◌<◌, ◌≤◌, Bool, true, false, not, inl, inr, List, [], ◌∷◌, ◌++◌, length, get_or, take, drop, map, option_map, replicate, Option, Some, None, refl, sym, ap, subst, ◌∙◌, arith, add-one, drop-cons, drop_of_length-le}
use Rattle.std.specs.Prelude.{◌&&◌, ◌==◌, MatchBool}
use Rattle.std.specs.Char.{digit_value}
use Rattle.std.specs.List.{list_all}
use Rattle.std.specs.Str.Parse.{AllDigits, digits_value}
use Rattle.std.proofs.lemmas.Bool.{and_parts, cases_eq, eq-eqb, ne_eqb}
use Rattle.std.proofs.lemmas.List.{append-nil, length-take, take-append-drop}
use Rattle.dex_base.proofs.ListFacts.{not_true}
use Rattle.dex_insn.specs.declared.opcode.Format.{Format}
use Rattle.dex_insn.specs.declared.opcode.Format.TheVariants as format
use Rattle.dex_insn.specs.declared.opcode.IndexKind.{IndexKind}
use Rattle.dex_insn.specs.declared.opcode.IndexKind.TheVariants as index
use Rattle.dex_insn.specs.Opcodes.{format_of, index_kind_of}
use Rattle.dex_insn.specs.Mnemonics.{IsNamed, mnemonics}
use Rattle.program_types.specs.Content as content
use Rattle.program_types.specs.Content.{Insn, Name}
use Rattle.listing_words.specs.Taking.{EachTaken}
use Rattle.listing_words.specs.Words.{Word, plain_word, text_in_quotes, after_spaces, up_to_space, TakesPlain, TakesWord}
use Rattle.listing_words.specs.inner.Words.{IsWritable}
use Rattle.listing_words.proofs.WordLaws.{plain_found, up_at_other}
use Rattle.listing_slots.specs.declared.key.Key.{Key}
use Rattle.listing_slots.specs.declared.key.Key.TheVariants as key
use Rattle.listing_slots.specs.declared.kind.Kind.TheVariants as kind
use Rattle.listing_slots.specs.declared.slot.Mark.{Mark}
use Rattle.listing_slots.specs.declared.slot.Mark.TheVariants as mark
use Rattle.listing_slots.specs.declared.slot.Slot.{Slot}
use Rattle.listing_slots.specs.declared.slot.Slot.TheVariants as slot
use Rattle.listing_slots.specs.Keys.{key_text, same, find_key, lead_keys}
use Rattle.listing_slots.specs.Data.{Datum, byte, half, word, tiny, short, int, long, named, key_word, byte_of, name_of}
use Rattle.listing_slots.specs.Slots.{IsSignedWithin, SpellsSlot, has_form, have_forms}
use Rattle.listing_slots.specs.Shapes.{Shape, HasBareShape, before_close, name_slot, plain_slots, register4, target}
use Rattle.listing_slots.specs.inner.ValidNames.{Spellings}
use Rattle.listing_slots.proofs.ShapeLaws.{all_at, bare_shape}
use Rattle.listing_slots.proofs.ShownLaws.{is_word, word_written, digits_graphic, digits_written, front_written}
use Rattle.listing_lines.specs.Labels.{Label, SpellsLabel, SpellsAll}
use Rattle.listing_lines.specs.Splitting.{is_comment, is_skipped}
use Rattle.listing_lines.specs.Lines.{insn_line, insn_of, line_of}
use Rattle.listing_lines.specs.Forms.{is_two}
use Rattle.listing_lines.specs.Places.{is_insns, may_stand}
use Rattle.listing_lines.specs.declared.form.Form.{Form}
use Rattle.listing_lines.specs.declared.form.Form.TheVariants.{One, Two}
use Rattle.listing_parse.specs.States.{at_heads, at_members, after_method, Block, at_start, at_top, in_class, in_code, State, stage_of, inside as inside_block, with_block, add}
use Rattle.listing_parse.specs.Forms.{HasShapeInForm, may_stand_in_form, SpellsInForm}
use Rattle.listing_parse.specs.inner.Named.{ReadingIsNamed, StayNamed}
use Rattle.listing_parse.specs.Text.{Reading, is_second, begins_mark, line_of_form, labels_after, AddsLine}
use Rattle.listing_parse.specs.inner.Short.{TakesDigits, TakesNumber, EndsInInteger, TakesOperand, TakesEach, TakesRegisters, InsnText, IsShortLine}
use Rattle.listing_parse.specs.declared.form_line.FormLine.TheVariants.{Nothing}
use Rattle.listing_parse.proofs.NamedLaws.{insn_read_named}
use Rattle.listing_parse.proofs.RefusedLaws.{taken}
use Rattle.listing_parse.proofs.SecondFormLaws.{no_line_of_form}

-- ---- words at the front

after_one : (c : ℕ) (cs : List ℕ) → c ≢ 32 → after_spaces (32 ∷ c ∷ cs) ≡ c ∷ cs
after_one c cs n = rw (ne_eqb c 32 n) refl

-- A word that can be written stands after one space, and a space or nothing after it.
pub word_taken : (text w rest : List ℕ) → text ≡ 32 ∷ (w ++ rest) → IsWritable (plain_word w) → up_to_space rest ≡ [] → TakesPlain (after_spaces text) w rest
word_taken text [] rest e h ends = absurd (omega (arith, h.0))
word_taken text (c ∷ w) rest e h ends =
    let n : c ≢ 32 = λ i. omega (arith, h.2.0) in
    let f : after_spaces text ≡ c ∷ (w ++ rest) = ap after_spaces e ∙ after_one c (w ++ rest) n in
    plain_found text c (w ++ rest) (c ∷ w) rest f (λ i. h.1 i) f h.2 ends

pub last_taken : (text w : List ℕ) → text ≡ 32 ∷ w → IsWritable (plain_word w) → TakesPlain (after_spaces text) w []
last_taken text w e h = word_taken text w [] (e ∙ ap (λ u. 32 ∷ u) (sym (append-nil w))) h refl

-- ---- digits

pub digit_is : (c d : ℕ) → 48 ≤ c → c ≤ 57 → d ≡ c - 48 → digit_value c ≡ d
digit_is c d low high e = grind arith

pub digits_taken : (most : ℕ) (text : List ℕ) (at n m : ℕ) (rest : List ℕ) → at ≤ length text → AllDigits 10 (take at text) → m ≡ digits_value 10 (take at text) → m ≤ most → up_to_space (drop at text) ≡ []
    → 0 < at → n ≡ m → rest ≡ drop at text → TakesDigits most text n rest
digits_taken most text at n m rest h all value small ends some is cut = record {
  digits = take at text;
  joined = sym (ap (λ t. take at text ++ t) cut ∙ take-append-drop at text);
  numeral = (omega (arith, length-take at text), all);
  value = is ∙ value;
  small = omega arith;
  ends = ap up_to_space cut ∙ ends;
}

pub digits_end : (most : ℕ) (text : List ℕ) (at n m : ℕ) (rest : List ℕ) → at ≤ length text → length text ≤ at → AllDigits 10 (take at text) → m ≡ digits_value 10 (take at text) → m ≤ most → 0 < length text → n ≡ m
    → rest ≡ drop (length text) text → TakesDigits most text n rest
digits_end most text at n m rest low high all value small some is cut =
    let e : length text ≡ at = omega arith in
    digits_taken most text at n m rest low all value small (rw (drop_of_length-le text {i = at} high) refl) (omega (arith, some)) is (cut ∙ ap (λ k. drop k text) e)

pub space_there : (text : List ℕ) (at : ℕ) → at < length text → get_or text at 0 ≡ 32 → up_to_space (drop at text) ≡ []
space_there text at h e = let d : drop at text ≡ get_or text at 0 ∷ drop (at + 1) text = rw add-one (drop-cons text at 0 h) in rw (d, e) refl

pub register_taken : (most : ℕ) (text t : List ℕ) (n : ℕ) (rest : List ℕ) → text ≡ 32 ∷ 118 ∷ t → TakesDigits most t n rest → TakesNumber mark.Register most text n rest
register_taken most text t n rest e h = record {
  spelled_by = 118 ∷ h.digits;
  taken = word_taken text (118 ∷ h.digits) rest (e ∙ ap (λ u. 32 ∷ 118 ∷ u) h.joined) (front_written 118 h.digits (omega arith) (omega arith) (digits_graphic h.digits h.numeral.1)) h.ends;
  number = record { digits = h.digits; joined = refl; spelled = inl (h.numeral, h.value); small = h.small };
}

pub count_taken : (most : ℕ) (text t : List ℕ) (n : ℕ) (rest : List ℕ) → text ≡ 32 ∷ t → TakesDigits most t n rest → TakesNumber mark.Nothing most text n rest
count_taken most text t n rest e h = record {
  spelled_by = h.digits;
  taken = word_taken text h.digits rest (e ∙ ap (λ u. 32 ∷ u) h.joined) (digits_written h.digits h.numeral.0 h.numeral.1) h.ends;
  number = record { digits = h.digits; joined = refl; spelled = inl (h.numeral, h.value); small = h.small };
}

-- ---- what a word says in its slot

pub byte_read : (es : List Label) {m : Mark} {most : ℕ} {text : List ℕ} {n : ℕ} {rest : List ℕ} → TakesNumber m most text n rest → TakesOperand es (slot.Byte m most) text (byte n) rest
byte_read es {n = n} h = record { spelled_by = plain_word h.spelled_by; taken = h.taken; form = refl; word_values = (n, h.number, refl) }

pub half_read : (es : List Label) {m : Mark} {most : ℕ} {text : List ℕ} {n : ℕ} {rest : List ℕ} → TakesNumber m most text n rest → TakesOperand es (slot.Half m most) text (half n) rest
half_read es {n = n} h = record { spelled_by = plain_word h.spelled_by; taken = h.taken; form = refl; word_values = (n, h.number, refl) }

pub nibble_read : (es : List Label) {text : List ℕ} {z : ℤ} → EndsInInteger 7 text z → TakesOperand es slot.Nibble text (tiny z) []
nibble_read es {z = z} h = record { spelled_by = plain_word h.spelled_by; taken = h.taken; form = refl; word_values = (z, h.number, refl) }

pub tiny_read : (es : List Label) {text : List ℕ} {z : ℤ} → EndsInInteger 127 text z → TakesOperand es slot.Tiny text (tiny z) []
tiny_read es {z = z} h = record { spelled_by = plain_word h.spelled_by; taken = h.taken; form = refl; word_values = (z, h.number, refl) }

pub short_read : (es : List Label) {text : List ℕ} {z : ℤ} → EndsInInteger 32767 text z → TakesOperand es slot.Short text (short z) []
short_read es {z = z} h = record { spelled_by = plain_word h.spelled_by; taken = h.taken; form = refl; word_values = (z, h.number, refl) }

pub int_read : (es : List Label) {text : List ℕ} {z : ℤ} → EndsInInteger 2147483647 text z → TakesOperand es slot.Int text (int z) []
int_read es {z = z} h = record { spelled_by = plain_word h.spelled_by; taken = h.taken; form = refl; word_values = (z, h.number, refl) }

pub long_read : (es : List Label) {text : List ℕ} {z : ℤ} → EndsInInteger 9223372036854775807 text z → TakesOperand es slot.Long text (long z) []
long_read es {z = z} h = record { spelled_by = plain_word h.spelled_by; taken = h.taken; form = refl; word_values = (z, h.number, refl) }

pub fits_8 : (z : ℤ) → IsSignedWithin 127 z → FitsSigned w8 z
fits_8 (pos n) h = search rules
fits_8 (negsuc n) h = search rules

pub fits_16 : (z : ℤ) → IsSignedWithin 32767 z → FitsSigned w16 z
fits_16 (pos n) h = search rules
fits_16 (negsuc n) h = search rules

pub fits_32 : (z : ℤ) → IsSignedWithin 2147483647 z → FitsSigned w32 z
fits_32 (pos n) h = search rules
fits_32 (negsuc n) h = search rules

pub fits_64 : (z : ℤ) → IsSignedWithin 9223372036854775807 z → FitsSigned w64 z
fits_64 (pos n) h = search rules
fits_64 (negsuc n) h = search rules

pub nibble_fits : (z : ℤ) → IsSignedWithin 7 z → FitsSigned w8 z
nibble_fits (pos n) h = search rules
nibble_fits (negsuc n) h = search rules

pub target_read : (es : List Label) {text w : List ℕ} {n : ℕ} → TakesPlain (after_spaces text) w [] → SpellsLabel es (plain_word w) (word n) → TakesOperand es target text (word n) []
target_read es {w = w} t h = record { spelled_by = plain_word w; taken = t; form = refl; word_values = h }

pub name_read : (es : List Label) (k : Option IndexKind) (text w : List ℕ) (d : Datum) → TakesPlain (after_spaces text) w [] → SpellsSlot (name_slot k) (plain_word w) d → TakesOperand es (name_slot k) text d []
name_read es (Some index.String) text w d t h = let e = h.1 in absurd cc
name_read es (Some index.Type) text w d t h = record { spelled_by = plain_word w; taken = t; form = refl; word_values = h }
name_read es (Some index.Field) text w d t h = record { spelled_by = plain_word w; taken = t; form = refl; word_values = h }
name_read es (Some index.Method) text w d t h = record { spelled_by = plain_word w; taken = t; form = refl; word_values = h }
name_read es None text w d t h = record { spelled_by = plain_word w; taken = t; form = refl; word_values = h }

-- ---- words one after the other

each_words : (es : List Label) (ss : List Slot) (text : List ℕ) (ds : List Datum) (rest : List ℕ) → TakesEach es ss text ds rest → (ws : List Word) × EachTaken TakesWord text ws rest × (have_forms ss ws ≡ true) × SpellsAll es ss ws ds
unfolding have_forms
each_words es [] text [] rest h = ([], h, refl, tt)
each_words es [] text (d ∷ ds) rest h = absurd h
each_words es (s ∷ ss) text [] rest h = absurd h
each_words es (s ∷ ss) text (d ∷ ds) rest h =
    let m = each_words es ss h.0 ds rest h.2 in
    (h.1.spelled_by ∷ m.0, (h.0, h.1.taken, m.1), rw h.1.form m.2, (h.1.word_values, m.3))

pub each_join : (es : List Label) (ss ts : List Slot) (text : List ℕ) (ds gs : List Datum) (mid rest : List ℕ) → TakesEach es ss text ds mid → TakesEach es ts mid gs rest → TakesEach es (ss ++ ts) text (ds ++ gs) rest
each_join es [] ts text [] gs mid rest h k = subst (λ (t : List ℕ). TakesEach es ts t gs rest) (sym h) k
each_join es [] ts text (d ∷ ds) gs mid rest h k = absurd h
each_join es (s ∷ ss) ts text [] gs mid rest h k = absurd h
each_join es (s ∷ ss) ts text (d ∷ ds) gs mid rest h k = (h.0, h.1, each_join es ss ts h.0 ds gs mid rest h.2 k)

-- Words that are all there is say the instruction; their slots are those of the format, whatever else they are.
pub all_taken : (es : List Label) (f : Format) (op : ℕ) (text : List ℕ) (ss : List Slot) (ds : List Datum) (i : Insn) → TakesEach es ss text ds []
    → ((ws : List Word) → have_forms ss ws ≡ true → SpellsAll es ss ws ds → plain_slots (Some f) (index_kind_of op) ws ≡ ss) → i ≡ insn_of (Some f) op ds → InsnText es f op text i
all_taken es f op text ss ds i h slots is =
    let w = each_words es ss text ds [] h in
    let e = slots w.0 w.2 w.3 in
    record {
      words = w.0;
      has_words = record { end = []; words = w.1; spaces = refl };
      forms = subst (λ (x : List Slot). have_forms x w.0 ≡ true) (sym e) w.2;
      word_values = ds;
      spelled = subst (λ (x : List Slot). SpellsAll es x w.0 ds) (sym e) w.3;
      is = is;
    }

pub one_read : (es : List Label) {f g : Format} {op : ℕ} {text : List ℕ} {s : Slot} {d : Datum} {i : Insn} → f ≡ g → TakesOperand es s text d []
    → ((ws : List Word) → plain_slots (Some g) (index_kind_of op) ws ≡ s ∷ []) → i ≡ insn_of (Some g) op (d ∷ []) → InsnText es f op text i
one_read es {g = g} {op = op} {text = text} {s = s} {d = d} {i = i} e h slots is =
    subst (λ (x : Format). InsnText es x op text i) (sym e) (all_taken es g op text (s ∷ []) (d ∷ []) i ([], h, refl) (λ ws a b. slots ws) is)

pub two_read : (es : List Label) {f g : Format} {op : ℕ} {text more : List ℕ} {s t : Slot} {d k : Datum} {i : Insn} → f ≡ g → TakesOperand es s text d more → TakesOperand es t more k []
    → ((ws : List Word) → plain_slots (Some g) (index_kind_of op) ws ≡ s ∷ t ∷ []) → i ≡ insn_of (Some g) op (d ∷ k ∷ []) → InsnText es f op text i
two_read es {g = g} {op = op} {text = text} {more = more} {s = s} {t = t} {d = d} {k = k} {i = i} e h j slots is =
    subst (λ (x : Format). InsnText es x op text i) (sym e) (all_taken es g op text (s ∷ t ∷ []) (d ∷ k ∷ []) i (more, h, ([], j, refl)) (λ ws a b. slots ws) is)

pub three_read : (es : List Label) {f g : Format} {op : ℕ} {text more last : List ℕ} {s t u : Slot} {d k m : Datum} {i : Insn} → f ≡ g → TakesOperand es s text d more → TakesOperand es t more k last → TakesOperand es u last m []
    → ((ws : List Word) → plain_slots (Some g) (index_kind_of op) ws ≡ s ∷ t ∷ u ∷ []) → i ≡ insn_of (Some g) op (d ∷ k ∷ m ∷ []) → InsnText es f op text i
three_read es {g = g} {op = op} {text = text} {more = more} {last = last} {s = s} {t = t} {u = u} {d = d} {k = k} {m = m} {i = i} e h j l slots is =
    subst (λ (x : Format). InsnText es x op text i) (sym e) (all_taken es g op text (s ∷ t ∷ u ∷ []) (d ∷ k ∷ m ∷ []) i (more, h, (last, j, ([], l, refl))) (λ ws a b. slots ws) is)

pub none_read : (es : List Label) {f : Format} {op : ℕ} (text : List ℕ) → f ≡ format.F10x → length text ≡ 0 → InsnText es f op text (content.I10x op)
unfolding insn_of
none_read es {op = op} [] e n = subst (λ (x : Format). InsnText es x op [] (content.I10x op)) (sym e) (all_taken es format.F10x op [] [] [] (content.I10x op) refl (λ ws a b. refl) refl)
none_read es (c ∷ text) e n = absurd (omega arith)

-- ---- registers in braces

pub open_read : (es : List Label) (text rest : List ℕ) → text ≡ 32 ∷ 123 ∷ rest → up_to_space rest ≡ [] → TakesOperand es (slot.Key key.Open) text (key_word key.Open) rest
unfolding same key_text
open_read es text rest e ends = record { spelled_by = plain_word (123 ∷ []); taken = word_taken text (123 ∷ []) rest e (front_written 123 [] (omega arith) (omega arith) tt) ends; form = refl; word_values = refl }

pub close_read : (es : List Label) (text rest : List ℕ) → text ≡ 32 ∷ 125 ∷ rest → up_to_space rest ≡ [] → TakesOperand es (slot.Key key.Close) text (key_word key.Close) rest
unfolding same key_text
close_read es text rest e ends = record { spelled_by = plain_word (125 ∷ []); taken = word_taken text (125 ∷ []) rest e (front_written 125 [] (omega arith) (omega arith) tt) ends; form = refl; word_values = refl }

abbrev inside : List ℕ → Slot → List Slot
inside rs x = replicate (length rs) register4 ++ (slot.Key key.Close ∷ x ∷ [])

before_is : (es : List Label) (rs : List ℕ) (most : ℕ) (x : Slot) (ws : List Word) (gs : List Datum) → length rs ≤ most → have_forms (inside rs x) ws ≡ true → SpellsAll es (inside rs x) ws (map byte rs ++ gs) → before_close most ws ≡ length rs
unfolding before_close have_forms same key_text
before_is es [] most x [] gs h f s = absurd cc
before_is es [] zero x (w ∷ ws) gs h f s = refl
before_is es [] (suc most) x (plain_word w ∷ ws) gs h f s = let a = (and_parts (same (key_text key.Close) w) (have_forms (x ∷ []) ws) f).0 in rw a refl
before_is es [] (suc most) x (text_in_quotes us ∷ ws) gs h f s = absurd cc
before_is es (r ∷ rs) zero x ws gs h f s = absurd (omega arith)
before_is es (r ∷ rs) (suc most) x [] gs h f s = absurd cc
before_is es (r ∷ rs) (suc most) x (w ∷ ws) gs h f s =
    let j : w ≡ plain_word (118 ∷ s.0.1.digits) = s.0.1.joined in
    let i = before_is es rs most x ws gs (omega arith) (and_parts (has_form register4 w) (have_forms (inside rs x) ws) f).1 s.1 in
    rw j (omega (arith, i))

brace_slots : (es : List Label) (k : Option IndexKind) (rs : List ℕ) (ws : List Word) (gs : List Datum) → length rs ≤ 5 → have_forms (slot.Key key.Open ∷ inside rs (name_slot k)) ws ≡ true
    → SpellsAll es (slot.Key key.Open ∷ inside rs (name_slot k)) ws (key_word key.Open ∷ (map byte rs ++ gs)) → plain_slots (Some format.F35c) k ws ≡ slot.Key key.Open ∷ inside rs (name_slot k)
unfolding have_forms
brace_slots es k rs [] gs h f s = absurd s
brace_slots es k rs (w ∷ ws) gs h f s =
    let b = before_is es rs 5 (name_slot k) ws gs h (and_parts (has_form (slot.Key key.Open) w) (have_forms (inside rs (name_slot k)) ws) f).1 s.1 in
    ap (λ n. slot.Key key.Open ∷ (replicate n register4 ++ (slot.Key key.Close ∷ name_slot k ∷ []))) b

braces_are : (op : ℕ) (rs : List ℕ) (which : Name) → length rs ≤ 5 → content.I35c op (length rs) (rs ++ replicate (5 - length rs) 0) which ≡ insn_of (Some format.F35c) op (key_word key.Open ∷ (map byte rs ++ (key_word key.Close ∷ named which ∷ [])))
unfolding insn_of byte_of name_of
braces_are op [] which h = refl
braces_are op (a ∷ []) which h = refl
braces_are op (a ∷ b ∷ []) which h = refl
braces_are op (a ∷ b ∷ c ∷ []) which h = refl
braces_are op (a ∷ b ∷ c ∷ d ∷ []) which h = refl
braces_are op (a ∷ b ∷ c ∷ d ∷ e ∷ []) which h = refl
braces_are op (a ∷ b ∷ c ∷ d ∷ e ∷ f ∷ rs) which h = absurd (omega arith)

pub braces_read : (es : List Label) (op : ℕ) (text front closing rest regs : List ℕ) (n : ℕ) (which : Name) → text ≡ 32 ∷ 123 ∷ front → up_to_space front ≡ [] → TakesRegisters front regs n closing
    → closing ≡ 32 ∷ 125 ∷ rest → up_to_space rest ≡ [] → TakesOperand es (name_slot (index_kind_of op)) rest (named which) [] → InsnText es format.F35c op text (content.I35c op n regs which)
braces_read es op text front closing rest regs n which e ends t f stops h =
    let k = index_kind_of op in
    let rs = t.given in
    let gs = key_word key.Close ∷ named which ∷ [] in
    let same = ap (λ (m : ℕ). content.I35c op m regs which) t.count ∙ ap (λ (l : List ℕ). content.I35c op (length rs) l which) t.padded in
    all_taken es format.F35c op text (slot.Key key.Open ∷ inside rs (name_slot k)) (key_word key.Open ∷ (map byte rs ++ gs)) (content.I35c op n regs which)
    (front, open_read es text front e ends, each_join es (replicate (length rs) register4) (slot.Key key.Close ∷ name_slot k ∷ []) front (map byte rs) gs closing [] (t.each es) (rest, close_read es closing rest f stops, ([], h, refl)))
    (λ ws a b. brace_slots es k rs ws gs t.most a b)
    (same ∙ braces_are op rs which t.most)

-- ---- the line

abbrev no_key : Option Key → Bool
no_key None = true
no_key (Some k) = false

none_is : (o : Option Key) → no_key o ≡ true → None ≡ o
none_is None e = refl
none_is (Some k) e = absurd cc

-- a word that begins neither a comment nor another line
abbrev fits : List ℕ → Bool
fits [] = true
fits (c ∷ cs) = is_word (c ∷ cs) && (not (c == 35) && no_key (find_key lead_keys (c ∷ cs)))

all_fit : list_all fits mnemonics ≡ true
unfolding mnemonics find_key same key_text
all_fit = refl

named_fits : (op : ℕ) (m : List ℕ) → IsNamed op m → fits m ≡ true
named_fits op m n = subst (λ (t : List ℕ). fits t ≡ true) n.is (all_at fits mnemonics op [] all_fit refl)

pub named_taken : (op : ℕ) (line m rest : List ℕ) → IsNamed op m → after_spaces line ≡ m ++ rest → up_to_space rest ≡ [] → TakesPlain (after_spaces line) m rest
named_taken op line [] rest n e ends = absurd (n.used refl)
named_taken op line (c ∷ cs) rest n e ends =
    let w = word_written (c ∷ cs) (and_parts (is_word (c ∷ cs)) (not (c == 35) && no_key (find_key lead_keys (c ∷ cs))) (named_fits op (c ∷ cs) n)).0 in
    plain_found line c (cs ++ rest) (c ∷ cs) rest e (λ i. w.1 i) e w.2 ends

pub stops_there : (rest : List ℕ) → (0 < length rest → get_or rest 0 0 ≡ 32) → up_to_space rest ≡ []
stops_there [] h = refl
stops_there (c ∷ rest) h = let e : c ≡ 32 = h (omega arith) in rw e refl

second_is : (f : Form) → is_two f ≡ true → f ≡ Two
second_is One e = absurd cc
second_is Two e = refl

pub is_short : (r : Reading) (line m rest : List ℕ) (op : ℕ) (f : Format) (i : Insn) → is_two r.form ≡ true → is_insns (stage_of r.base.block) ≡ true → IsNamed op m → format_of op ≡ Some f → after_spaces line ≡ m ++ rest
    → (0 < length rest → get_or rest 0 0 ≡ 32) → InsnText r.labels f op rest i → IsShortLine r line i
is_short r line m rest op f i second stands names has joined stops word_values = record {
  second = second_is r.form second;
  stands = stands;
  mnemonic = m;
  rest = rest;
  op = op;
  format = f;
  taken = named_taken op line m rest names joined (stops_there rest stops);
  named = names;
  has_format = has;
  operands = word_values;
}

no_lead : (m : List ℕ) → fits m ≡ true → 0 < length m → None ≡ find_key lead_keys m
no_lead [] f s = absurd (omega arith)
no_lead (c ∷ cs) f s = none_is (find_key lead_keys (c ∷ cs)) (and_parts (not (c == 35)) (no_key (find_key lead_keys (c ∷ cs))) (and_parts (is_word (c ∷ cs)) (not (c == 35) && no_key (find_key lead_keys (c ∷ cs))) f).1).1

no_comment : (text m rest : List ℕ) → TakesPlain text m rest → fits m ≡ true → is_comment text ≡ false
no_comment [] m rest t f = let e = ap length t.word in absurd (omega (arith, t.some))
no_comment (c ∷ cs) m rest t f = elim (cases_eq c 32) [
  | inl h ↦ let e : m ≡ [] = t.word ∙ rw (eq-eqb c 32 h) refl in let l = ap length e in absurd (omega (arith, t.some))
  | inr h ↦
      let e : m ≡ c ∷ up_to_space cs = t.word ∙ up_at_other c cs h in
      let g = subst (λ (w : List ℕ). fits w ≡ true) e f in
      let x = (and_parts (not (c == 35)) (no_key (find_key lead_keys (c ∷ up_to_space cs))) (and_parts (is_word (c ∷ up_to_space cs)) (not (c == 35) && no_key (find_key lead_keys (c ∷ up_to_space cs))) g).1).0 in
      not_true (c == 35) x
]

pub not_skipped : (r : Reading) (line : List ℕ) (i : Insn) → IsShortLine r line i → is_skipped line ≡ false
not_skipped r line i h = no_comment (after_spaces line) h.mnemonic h.rest h.taken (named_fits h.op h.mnemonic h.named)

nothing_else : (r : Reading) (ws : List Word) → is_second ws ≡ false → begins_mark ws ≡ false → r.form ≡ Two → line_of_form r ws ≡ Nothing
unfolding line_of_form
nothing_else r ws a b e = rw (a, e, b) refl

labels_kept : (f : Form) (op n : ℕ) (ls : List (List ℕ)) (es : List Label) → es ≡ labels_after f (kind.Plain op) n ls es
labels_kept One op n ls es = refl
labels_kept Two op n ls es = refl

pub short_adds : (r t : Reading) (line : List ℕ) (i : Insn) (next : State) → IsShortLine r line i → add r.base (insn_line i) ≡ Some next → t ≡ record { form = r.form; labels = r.labels; base = next } → (ls : List (List ℕ)) → AddsLine r ls line t
unfolding may_stand line_of
short_adds r t line i next h a is = λ ls.
    let o = h.operands in
    let ws = plain_word h.mnemonic ∷ o.words in
    let k = index_kind_of h.op in
    let ss = plain_slots (format_of h.op) k o.words in
    let e = sym h.has_format in
    let sh : Shape = record { kind = kind.Plain h.op; label = []; slots = ss; words = o.words } in
    let forms = subst (λ (x : Option Format). have_forms (plain_slots x k o.words) o.words ≡ true) e o.forms in
    let bare : HasBareShape ws sh = bare_shape ws o.words h.mnemonic (kind.Plain h.op, ss) refl (no_lead h.mnemonic (named_fits h.op h.mnemonic h.named) h.taken.some) (record { text = h.mnemonic; after = o.words; words = refl; has_row = inl (h.op, h.named, refl); forms = forms }) in
    let spelled = subst (λ (x : Option Format). SpellsAll r.labels (plain_slots x k o.words) o.words o.word_values) e o.spelled in
    let same : insn_line i ≡ line_of (kind.Plain h.op) o.word_values = ap insn_line (o.is ∙ ap (λ (x : Option Format). insn_of x h.op o.word_values) e) in
    let n = no_line_of_form ws sh bare in
    record {
      words = ws;
      has_words = record { end = o.has_words.end; words = (h.rest, h.taken, o.has_words.words); spaces = o.has_words.spaces };
      makes = inr (inr (
        nothing_else r ws n.0 n.1 h.second,
        taken r t ls ws sh o.word_values next
            (subst (λ (x : Form). HasShapeInForm x ws sh) (sym h.second) bare)
            (subst (λ (x : Form). may_stand_in_form x r.base sh ≡ true) (sym h.second) h.stands)
            (subst (λ (x : Form). SpellsInForm x r.labels ss o.words o.word_values) (sym h.second) spelled)
            (sym (ap (add r.base) same) ∙ a)
            (is ∙ ap (λ (es : List Label). record { form = r.form; labels = es; base = next }) (labels_kept r.form h.op (r.base.lines + 1) ls r.labels)),
      ));
    }

-- where an instruction may stand, one is added
inside_adds : (b : Block) (n : ℕ) (i : Insn) → is_insns (stage_of b) ≡ true → inside_block b n (insn_line i) ≡ None → ⊥
unfolding inside_block
inside_adds at_start n i s e = absurd cc
inside_adds at_top n i s e = absurd cc
inside_adds (in_class o at_heads) n i s e = absurd cc
inside_adds (in_class o at_members) n i s e = absurd cc
inside_adds (in_class o (after_method m)) n i s e = absurd cc
inside_adds (in_code o b p) n i s e = absurd cc

map_none : {A B : Type 0} (f : A → B) (o : Option A) → option_map f o ≡ None → o ≡ None
map_none f None e = refl
map_none f (Some x) e = absurd cc

always_adds : (s : State) (i : Insn) → is_insns (stage_of s.block) ≡ true → add s (insn_line i) ≡ None → ⊥
unfolding add
always_adds s i h e = inside_adds s.block s.lines i h (map_none (λ b. with_block s b) (inside_block s.block s.lines (insn_line i)) e)

pub short_added : (r t : Reading) (line : List ℕ) (i : Insn) (next : State) (b : Bool) → IsShortLine r line i → MatchBool b (add r.base (insn_line i) ≡ Some next) (add r.base (insn_line i) ≡ None) → t ≡ record { form = r.form; labels = r.labels; base = next }
    → MatchBool b ((is_skipped line ≡ false) × ((ls : List (List ℕ)) → AddsLine r ls line t)) (t ≡ r)
short_added r t line i next true h a is = (not_skipped r line i h, short_adds r t line i next h a is)
short_added r t line i next false h a is = absurd (always_adds r.base i h.stands a)

pub short_named : (old new : Spellings) (r : Reading) (i : Insn) (next : State) (b : Bool) → is_insns (stage_of r.base.block) ≡ true → StayNamed old new i → MatchBool b (add r.base (insn_line i) ≡ Some next) (add r.base (insn_line i) ≡ None)
    → ReadingIsNamed old r → ReadingIsNamed new (record { form = r.form; labels = r.labels; base = next })
short_named old new r i next true s stay a = insn_read_named old new r (record { form = r.form; labels = r.labels; base = next }) i stay a
short_named old new r i next false s stay a = absurd (always_adds r.base i s a)
