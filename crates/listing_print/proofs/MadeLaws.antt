-- What the printed words of a value say makes the value.
use Rattle.std.proofs.Common.{◌≡◌, Bool, true, false, List, [], ◌∷◌, ◌++◌, length, refl, sym, ap, ◌∙◌, append_assoc}
use Rattle.std.specs.Prelude.{fold}
use Rattle.std.proofs.lemmas.List.{append-nil}
use Rattle.program_types.specs.Content as content
use Rattle.program_types.specs.Content.{Value, Values, no_values, more_values, Name, OfText}
use Rattle.listing_slots.specs.declared.key.Key.TheVariants as key
use Rattle.listing_slots.specs.Data.{Datum, key_word}
use Rattle.listing_lines.specs.Lines.{Making, with_word, with_value, value_of, first_value}
use Rattle.listing_print.specs.Operands.{Operand, keyword, named_operands, value_operands, values_operands}
use Rattle.listing_print.specs.inner.Reading.{data_of}
use Rattle.std.proofs.Math.Seq.{take-append_seam, drop-append_seam}
use Rattle.program_types.proofs.Nesting.{listed, values-listed}

pub data_join : (os ps : List Operand) → data_of (os ++ ps) ≡ data_of os ++ data_of ps
data_join [] ps = refl
data_join (o ∷ os) ps = ap (λ ds. o.value ∷ ds) (data_join os ps)

-- after these values
abbrev with_values : Making → List Value → Making
with_values m vs = record { values = m.values ++ vs; begins = m.begins }

no_more : (m : Making) → m ≡ with_values m []
no_more m = ap (λ vs. record { values = vs; begins = m.begins }) (sym (append-nil m.values))

one_more : (m : Making) (v : Value) (vs : List Value) → with_values (with_value m v) vs ≡ with_values m (v ∷ vs)
one_more m v vs = ap (λ xs. record { values = xs; begins = m.begins }) (append_assoc m.values (v ∷ []) vs)

-- a whole array
array_made : (m : Making) (vs : Values) → with_word (record { values = m.values ++ listed vs; begins = length m.values ∷ m.begins }) (key_word key.Close) ≡ with_value m (content.Array vs)
array_made m vs = rw (take-append_seam m.values (listed vs), drop-append_seam m.values (listed vs), values-listed vs) refl

named_fold : (which : Name) (m : Making) (rest : List Datum) → fold with_word m (data_of (named_operands which) ++ rest) ≡ fold with_word (with_value m (content.Named which)) rest
named_fold (OfText us) m rest = refl
named_fold _ m rest = refl

truth_fold : (b : Bool) (m : Making) (rest : List Datum) → fold with_word m (data_of (value_operands (content.Boolean b)) ++ rest) ≡ fold with_word (with_value m (content.Boolean b)) rest
truth_fold true m rest = refl
truth_fold false m rest = refl

mutual
  pub value_fold : (v : Value) (m : Making) (rest : List Datum) → fold with_word m (data_of (value_operands v) ++ rest) ≡ fold with_word (with_value m v) rest
  value_fold (content.Named which) m rest = named_fold which m rest
  value_fold (content.Array vs) m rest =
      let d : data_of (values_operands vs ++ (keyword key.Close ∷ [])) ++ rest ≡ data_of (values_operands vs) ++ (key_word key.Close ∷ rest) = ap (λ ds. ds ++ rest) (data_join (values_operands vs) (keyword key.Close ∷ [])) ∙ append_assoc (data_of (values_operands vs)) (key_word key.Close ∷ []) rest in
      let n : Making = record { values = m.values; begins = length m.values ∷ m.begins } in
      ap (fold with_word n) d ∙ values_fold vs n (key_word key.Close ∷ rest) ∙ ap (λ x. fold with_word x rest) (array_made m vs)
  value_fold (content.Boolean b) m rest = truth_fold b m rest
  value_fold _ m rest = refl

  pub values_fold : (vs : Values) (m : Making) (rest : List Datum) → fold with_word m (data_of (values_operands vs) ++ rest) ≡ fold with_word (with_values m (listed vs)) rest
  values_fold no_values m rest = ap (λ x. fold with_word x rest) (no_more m)
  values_fold (more_values v vs) m rest =
      ap (λ ds. fold with_word m (ds ++ rest)) (data_join (value_operands v) (values_operands vs))
      ∙ ap (fold with_word m) (append_assoc (data_of (value_operands v)) (data_of (values_operands vs)) rest)
      ∙ value_fold v m (data_of (values_operands vs) ++ rest)
      ∙ values_fold vs (with_value m v) rest
      ∙ ap (λ x. fold with_word x rest) (one_more m v (listed vs))

pub value_made : (v : Value) → value_of (data_of (value_operands v)) ≡ v
unfolding value_of
value_made v =
    let start : Making = record { values = []; begins = [] } in
    ap (λ (m : Making). first_value m.values) (ap (fold with_word start) (sym (append-nil (data_of (value_operands v)))) ∙ value_fold v start [])
