-- The tables of a file have one fault.
use Rattle.std.proofs.Common.{◌≡◌, ℕ, List, sym, ◌∙◌}
use Rattle.dex_base.specs.declared.fault.Fault.{Fault}
use Rattle.dex_base.proofs.FirstFaultLaws.{else_one, none_one, first_one, later_one}
use Rattle.tables_rows.specs.TableFaults.{StringHolds, TypeHolds, ProtoHolds, FieldHolds, MethodHolds, StringBreaks, TypeBreaks, ProtoBreaks, FieldBreaks, MethodBreaks, or_table, or_tables, IsTableFault}
use Rattle.tables_rows.specs.inner.TableFaults.{IsFirstRow}
use Rattle.tables_rows.proofs.ClearRows.{string_clear, type_clear, proto_clear, field_clear, method_clear, no_first}

-- ---- a row breaks one rule

module _ (b : List ℕ) (i m n : ℕ) where
  pub string_number : StringBreaks b i m → StringBreaks b i n → m ≡ n
  unfolding StringBreaks
  string_number = else_one (else_one (else_one none_one))

  pub type_number : TypeBreaks b i m → TypeBreaks b i n → m ≡ n
  unfolding TypeBreaks
  type_number = else_one (else_one (else_one none_one))

  pub proto_number : ProtoBreaks b i m → ProtoBreaks b i n → m ≡ n
  unfolding ProtoBreaks
  proto_number = else_one (else_one (else_one (else_one none_one)))

  pub field_number : FieldBreaks b i m → FieldBreaks b i n → m ≡ n
  unfolding FieldBreaks
  field_number = else_one (else_one (else_one none_one))

  pub method_number : MethodBreaks b i m → MethodBreaks b i n → m ≡ n
  unfolding MethodBreaks
  method_number = else_one (else_one (else_one none_one))

-- ---- a table has one first fault

pub first_row_one : (Breaks : List ℕ → ℕ → ℕ → Type 0) (Holds : List ℕ → ℕ → Type 0) (b : List ℕ) (k : ℕ) (e f : Fault)
    → ((i code : ℕ) → Holds b i → Breaks b i code → ⊥) → ((i m n : ℕ) → Breaks b i m → Breaks b i n → m ≡ n) → IsFirstRow Breaks Holds b k e → IsFirstRow Breaks Holds b k f → e ≡ f
first_row_one Breaks Holds b k e f clear one = first_one (λ i x h broken. clear i x.code h broken.breaks) (λ i x y p q.
    let code : x.code ≡ y.code = one i x.code y.code p.breaks q.breaks in
    let place : x.place ≡ y.place = p.place ∙ sym q.place in
    (λ j. record { code = code j; place = place j }))

-- ---- one of the five tables is the first that has a fault

module _ (b : List ℕ) where
  pub table_one : (Breaks : List ℕ → ℕ → ℕ → Type 0) (Holds : List ℕ → ℕ → Type 0) (k : ℕ) → ((i code : ℕ) → Holds b i → Breaks b i code → ⊥) → ((i m n : ℕ) → Breaks b i m → Breaks b i n → m ≡ n)
      → {e f : Fault} {P Q : Type 0} → (P → Q → e ≡ f) → or_table Breaks Holds b k e P → or_table Breaks Holds b k f Q → e ≡ f
  table_one Breaks Holds k clear one {e} {f} = later_one (λ hold. no_first Breaks Holds b k e clear hold) (λ hold. no_first Breaks Holds b k f clear hold) (first_row_one Breaks Holds b k e f clear one)

  pub tables_one : {e f : Fault} {P Q : Type 0} → (P → Q → e ≡ f) → or_tables b e P → or_tables b f Q → e ≡ f
  tables_one after =
      table_one StringBreaks StringHolds 0 (string_clear b) (string_number b) (
      table_one TypeBreaks TypeHolds 1 (type_clear b) (type_number b) (
      table_one ProtoBreaks ProtoHolds 2 (proto_clear b) (proto_number b) (
      table_one FieldBreaks FieldHolds 3 (field_clear b) (field_number b) (
      table_one MethodBreaks MethodHolds 4 (method_clear b) (method_number b) after))))

pub one_table_fault : (b : List ℕ) (e f : Fault) → IsTableFault b e → IsTableFault b f → e ≡ f
one_table_fault b e f x y = tables_one b none_one x.1 y.1
