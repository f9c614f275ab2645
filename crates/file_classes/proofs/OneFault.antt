-- Of the passes over class rows each has one first fault.
use Rattle.std.proofs.Common.{◌≡◌, ℕ, List, length, sym, ap, ◌∙◌, subst}
use Rattle.dex_base.specs.declared.fault.Fault.{Fault}
use Rattle.dex_base.specs.FirstFault.{or_later}
use Rattle.dex_base.proofs.FirstFaultLaws.{later_one, first_entry_one}
use Rattle.dex_container.specs.Frame.{IsFramed}
use Rattle.tables_rows.specs.Names.{Names, NameIsAt}
use Rattle.tables_rows.specs.RowFields.{row_place}
use Rattle.tables_rows.proofs.NameLaws.{names_one}
use Rattle.dex_value.specs.Faults.{ArrayBreaksAt}
use Rattle.dex_value.proofs.Namings.{NameIsAt-functional}
use Rattle.dex_value.proofs.OneFault.{array_one_fault}
use Rattle.code_read.specs.Faults.{CodeBreaks, CodeOverruns}
use Rattle.code_read.proofs.StandLaws.{NameIsAt-functional as code_names}
use Rattle.code_read.proofs.OneItemFault.{code_one_fault, registers_one_fault}
use Rattle.file_classes.specs.ClassRows.{class_word}
use Rattle.file_classes.specs.ClassData.{MethodEntry, Entries}
use Rattle.file_classes.specs.ClassFaults.{at_row, ValuesBreak, BodyHolds, BodyFails, CodeHolds, RegistersFail, EachCodeHolds, SomeCodeFails, MethodsBreak, BodiesBreak, RowRegistersBreak}
use Rattle.file_classes.proofs.EntryLaws.{entries_one}
use Rattle.file_classes.proofs.ClearLaws.{body_clear, registers_clear, codes_clear}

-- ---- of a row

module _ (b : List ℕ) (framed : IsFramed b) where
  pub values_one_fault : (i : ℕ) (e f : Fault) → ValuesBreak b i e → ValuesBreak b i f → e ≡ f
  values_one_fault i e f x y =
      let off = class_word b i 7 in
      let same = entries_one b framed (class_word b i 6) x.entries y.entries x.class_data y.class_data in
      let names = names_one b x.names y.names framed x.of_file y.of_file in
      let breaks = subst (λ (n : Names). ArrayBreaksAt (NameIsAt n) b off (length y.entries.statics) x.own) names
      (subst (λ (z : Entries). ArrayBreaksAt (NameIsAt x.names) b off (length z.statics) x.own) same x.breaks) in
      let own = array_one_fault (NameIsAt y.names) (NameIsAt-functional y.names) b framed off (length y.entries.statics) x.own y.own breaks y.breaks in
      x.moved ∙ ap (λ (z : Fault). at_row (row_place b 5 i) z) own ∙ sym y.moved

  body_one_fault : (place : ℕ) (e f : Fault) → BodyFails b place e → BodyFails b place f → e ≡ f
  body_one_fault place e f x y =
      let names = names_one b x.names y.names framed x.of_file y.of_file in
      code_one_fault (NameIsAt y.names) (code_names y.names) b framed place e f (subst (λ (n : Names). CodeBreaks (NameIsAt n) b place e) names x.breaks) y.breaks

  register_one_fault : (place : ℕ) (e f : Fault) → RegistersFail b place e → RegistersFail b place f → e ≡ f
  register_one_fault place e f x y =
      let names = names_one b x.names y.names framed x.of_file y.of_file in
      registers_one_fault (NameIsAt y.names) (code_names y.names) b framed place e f (subst (λ (n : Names). CodeOverruns (NameIsAt n) b place e) names x.breaks) y.breaks

  -- the first code of a list, and of a row, that fails is one
  module _ (Holds : List ℕ → ℕ → Type 0) (Fails : List ℕ → ℕ → Fault → Type 0) (clear : (place : ℕ) (e : Fault) → Holds b place → Fails b place e → ⊥)
      (one : (place : ℕ) (e f : Fault) → Fails b place e → Fails b place f → e ≡ f) where
    codes_one_fault : (es : List MethodEntry) (e f : Fault) → SomeCodeFails Holds Fails b es e → SomeCodeFails Holds Fails b es f → e ≡ f
    codes_one_fault es = first_entry_one es (λ k m. Holds b m.1.1) (λ k m. Fails b m.1.1) (λ k m e. clear m.1.1 e) (λ k m e f. one m.1.1 e f)

    -- direct methods, then virtual ones
    abbrev Both : Entries → Fault → Type 0
    Both z e = or_later (SomeCodeFails Holds Fails b z.directs e) (EachCodeHolds Holds b z.directs) (SomeCodeFails Holds Fails b z.virtuals e)

    both_one_fault : (z : Entries) (e f : Fault) → Both z e → Both z f → e ≡ f
    both_one_fault z e f = later_one (codes_clear b framed Holds Fails clear z.directs e) (codes_clear b framed Holds Fails clear z.directs f) (codes_one_fault z.directs e f) (codes_one_fault z.virtuals e f)

    methods_one_fault : (i : ℕ) (e f : Fault) → MethodsBreak Holds Fails b i e → MethodsBreak Holds Fails b i f → e ≡ f
    methods_one_fault i e f x y =
        let same = entries_one b framed (class_word b i 6) x.entries y.entries x.class_data y.class_data in
        both_one_fault y.entries e f (subst (λ (z : Entries). Both z e) same x.breaks) y.breaks

  pub bodies_one_fault : (i : ℕ) (e f : Fault) → BodiesBreak b i e → BodiesBreak b i f → e ≡ f
  bodies_one_fault = methods_one_fault BodyHolds BodyFails (body_clear b framed) body_one_fault

  pub registers_of_row_one_fault : (i : ℕ) (e f : Fault) → RowRegistersBreak b i e → RowRegistersBreak b i f → e ≡ f
  registers_of_row_one_fault = methods_one_fault CodeHolds RegistersFail (registers_clear b framed) register_one_fault
