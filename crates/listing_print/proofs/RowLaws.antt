-- A printed line has its shape, and its slots say the line.
use Rattle.std.proofs.Common.{◌≡◌, false, List, [], ◌∷◌, length, Some, None, refl, sym, ap, arith, rules}
use Rattle.std.specs.Prelude.{nat_le}
use Rattle.std.proofs.lemmas.Bool.{lt-leb}
use Rattle.program_types.specs.Content.{Method}
use Rattle.listing_words.specs.Words.{Word, plain_word}
use Rattle.listing_slots.specs.Keys.{key_text, same, find_key, lead_keys}
use Rattle.listing_slots.specs.Data.{byte_of, half_of, word_of, tiny_of, short_of, int_of, long_of, elements_of, name_of, text_of, type_of, proto_of}
use Rattle.listing_slots.specs.Shapes.{IsKeyed, key_row}
use Rattle.listing_lines.specs.Lines.{Line, static_line, direct_line, virtual_line, insn_line, line_of}
use Rattle.listing_print.specs.Operands.{value_operands}
use Rattle.listing_print.specs.Printed.{line_key, line_operands}
use Rattle.listing_lines.specs.declared.form.Form.{Form}
use Rattle.listing_print.proofs.PrintedLaws.{forms_in, value_words, value_whole}
use Rattle.listing_print.specs.inner.Reading.{slots_of, data_of, words_in, FitOperands, line_kind, IsKeyedLine}
use Rattle.listing_print.proofs.MadeLaws.{value_made}

lead_of : (l : Line) → IsKeyedLine l → Some (line_key l) ≡ find_key lead_keys (key_text (line_key l))
unfolding find_key same key_text
lead_of (insn_line i) h = absurd h
lead_of _ h = refl

pub past_three : (ws : List Word) (a b c d : Word) → nat_le (length (a ∷ b ∷ c ∷ d ∷ ws)) 3 ≡ false
past_three ws a b c d = lt-leb (length (a ∷ b ∷ c ∷ d ∷ ws)) 3 (omega arith)

row_of : (form : Form) (l : Line) → IsKeyedLine l → Some (line_kind l, slots_of (line_operands l)) ≡ key_row (line_key l) (words_in form (line_operands l))
unfolding key_row same key_text
row_of form (static_line m (Some v)) h = rw (past_three (words_in form (value_operands v)) _ _ _ _, value_words form v, value_whole v) refl
row_of form _ h = search rules

-- its words have its shape, in both forms
pub keyed_has_shape : (form : Form) (l : Line) → IsKeyedLine l → FitOperands (line_operands l)
    → IsKeyed (plain_word (key_text (line_key l)) ∷ words_in form (line_operands l)) (record { kind = line_kind l; label = []; slots = slots_of (line_operands l); words = words_in form (line_operands l) })
keyed_has_shape form l k f = record {
  text = key_text (line_key l);
  after = words_in form (line_operands l);
  words = refl;
  row = (line_kind l, slots_of (line_operands l));
  keyed = record { lead = line_key l; found = lead_of l k; has_row = row_of form l k; forms = forms_in form (line_operands l) f };
  is = refl;
}

without_code : (m : Method) → m.code ≡ None → record { name = m.name; proto = m.proto; flags = m.flags; code = None } ≡ m
without_code m e = ap (λ c. record { name = m.name; proto = m.proto; flags = m.flags; code = c }) (sym e)

-- its slots say the line
pub keyed_reads_line : (l : Line) → IsKeyedLine l → line_of (line_kind l) (data_of (line_operands l)) ≡ l
unfolding line_of byte_of half_of word_of tiny_of short_of int_of long_of elements_of name_of text_of type_of proto_of
keyed_reads_line (static_line m (Some v)) h = ap (λ x. static_line m (Some x)) (value_made v)
keyed_reads_line (direct_line m) h = ap direct_line (without_code m h)
keyed_reads_line (virtual_line m) h = ap virtual_line (without_code m h)
keyed_reads_line _ h = search rules
