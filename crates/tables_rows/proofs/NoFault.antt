-- Where no fault stands, the tables hold, and the other way round.
use Rattle.std.proofs.Common.{ℕ, ◌<◌, inl, inr, List}
use Rattle.dex_base.specs.declared.fault.Fault.{Fault}
use Rattle.dex_base.proofs.FirstFaultLaws.{later_clear}
use Rattle.dex_container.specs.Frame.{IsFramed}
use Rattle.dex_container.specs.Layout.{size_of}
use Rattle.tables_rows.specs.Sorted.{TablesHold, AllRows}
use Rattle.tables_rows.specs.TableFaults.{StringHolds, TypeHolds, ProtoHolds, FieldHolds, MethodHolds, StringBreaks, TypeBreaks, ProtoBreaks, FieldBreaks, MethodBreaks, IsTableFault}
use Rattle.tables_rows.proofs.ClearRows.{string_clear, type_clear, proto_clear, field_clear, method_clear, no_first}
use Rattle.tables_rows.proofs.RowsBreak.{HoldsOrBreaks, string_row, type_row, proto_row, field_row, method_row, tables_are_decided}

-- a row that breaks no rule holds
unbroken : (Holds : List ℕ → ℕ → Type 0) (Breaks : List ℕ → ℕ → ℕ → Type 0) (b : List ℕ) (i : ℕ) → HoldsOrBreaks Holds Breaks b i → ((code : ℕ) → Breaks b i code → ⊥) → Holds b i
unfolding HoldsOrBreaks
unbroken Holds Breaks b i (inl h) clear = h
unbroken Holds Breaks b i (inr u) clear = absurd (clear u.0 u.1)

module _ (b : List ℕ) (framed : IsFramed b) (i : ℕ) where
  pub string_unbroken : i < size_of b 0 → ((code : ℕ) → StringBreaks b i code → ⊥) → StringHolds b i
  string_unbroken lt = unbroken StringHolds StringBreaks b i (string_row b framed i lt)

  pub type_unbroken : AllRows StringHolds b 0 → i < size_of b 1 → ((code : ℕ) → TypeBreaks b i code → ⊥) → TypeHolds b i
  type_unbroken strings lt = unbroken TypeHolds TypeBreaks b i (type_row b framed i strings lt)

  pub proto_unbroken : AllRows StringHolds b 0 → AllRows TypeHolds b 1 → i < size_of b 2 → ((code : ℕ) → ProtoBreaks b i code → ⊥) → ProtoHolds b i
  proto_unbroken strings types lt = unbroken ProtoHolds ProtoBreaks b i (proto_row b framed i strings types lt)

  pub field_unbroken : AllRows StringHolds b 0 → AllRows TypeHolds b 1 → i < size_of b 3 → ((code : ℕ) → FieldBreaks b i code → ⊥) → FieldHolds b i
  field_unbroken strings types lt = unbroken FieldHolds FieldBreaks b i (field_row b framed i strings types lt)

  pub method_unbroken : AllRows StringHolds b 0 → AllRows TypeHolds b 1 → AllRows ProtoHolds b 2 → i < size_of b 4 → ((code : ℕ) → MethodBreaks b i code → ⊥) → MethodHolds b i
  method_unbroken strings types protos lt = unbroken MethodHolds MethodBreaks b i (method_row b framed i strings types protos lt)

pub without_fault : (b : List ℕ) → IsFramed b → ((e : Fault) → IsTableFault b e → ⊥) → TablesHold b
without_fault b framed none = elim (tables_are_decided b framed) [ inl hold ↦ hold | inr f ↦ absurd (none f.0 f.1) ]

pub with_tables : (b : List ℕ) → IsFramed b → TablesHold b → (e : Fault) → IsTableFault b e → ⊥
with_tables b framed hold e x =
    later_clear (no_first StringBreaks StringHolds b 0 e (string_clear b)) (
    later_clear (no_first TypeBreaks TypeHolds b 1 e (type_clear b)) (
    later_clear (no_first ProtoBreaks ProtoHolds b 2 e (proto_clear b)) (
    later_clear (no_first FieldBreaks FieldHolds b 3 e (field_clear b)) (
    later_clear (no_first MethodBreaks MethodHolds b 4 e (method_clear b)) (λ none. none) hold.methods) hold.fields) hold.protos) hold.types) hold.strings x.1
