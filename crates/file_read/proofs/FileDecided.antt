-- A file means a program, or a fault refuses it.
use Rattle.std.proofs.Common.{◌≡◌, ℕ, ◌<◌, ◌⊎◌, inl, inr, List, [], length, Some, None, refl, slice_get}
use Rattle.std.proofs.lemmas.Bool.{cases_eq}
use Rattle.dex_base.specs.declared.fault.Fault.{Fault}
use Rattle.dex_base.proofs.FirstFaultLaws.{first_decided, entries_decided}
use Rattle.dex_container.specs.Frame.{IsFramed}
use Rattle.dex_container.specs.Layout.{size_of}
use Rattle.program_types.specs.Content.{Code, Program}
use Rattle.tables_rows.specs.Names.{Names, AreNamesOf, NameIsAt}
use Rattle.tables_rows.specs.RowFields.{row_place}
use Rattle.tables_rows.specs.Sorted.{RowsHold, TablesHold}
use Rattle.tables_rows.specs.Stands.{NameStands}
use Rattle.tables_rows.proofs.NameLaws.{names_stand, stands_names}
use Rattle.tables_laws.proofs.FileLemmas.{tables_have_names}
use Rattle.tables_rows.proofs.RowsBreak.{tables_are_decided}
use Rattle.dex_base.specs.Fields.{AreBytes}
use Rattle.dex_value.proofs.ArraysDecided.{arrays_are_decided}
use Rattle.dex_value.proofs.Carrying.{file_breaks}
use Rattle.code_read.specs.Code.{BodyStands}
use Rattle.code_read.specs.Faults.{CodeBreaks}
use Rattle.code_read.proofs.CarryLaws.{body_weaker}
use Rattle.code_read.proofs.StandLaws.{body_code}
use Rattle.file_read.specs.inner.Broken.{Broken}
use Rattle.file_classes.specs.ClassRows.{class_word}
use Rattle.file_classes.specs.ClassData.{MethodEntry, Entries, EntriesAt}
use Rattle.file_classes.specs.ClassFaults.{ClassRowHolds, ValuesHold, ValuesBreak, at_row, SomeBodyStands, BodyHolds, BodyFails, CodeHolds, RegistersFail, EachCodeHolds, SomeCodeFails, ClassCodesHold, MethodsBreak, BodiesHold, BodiesBreak, RowRegistersHold, RowRegistersBreak}
use Rattle.file_classes.specs.inner.ClassFaults.{IsFirstClass}
use Rattle.file_read.specs.Means.{Means}
use Rattle.file_read.specs.Refused.{IsRefused}
use Rattle.file_classes.proofs.EntryLaws.{at_some}
use Rattle.file_read.proofs.PassLaws.{program_meant, table_refused, class_refused, value_refused, last_refused}
use Rattle.file_read.proofs.FirstLaws.{means_clear, refused_broken}
use Rattle.code_read.proofs.CodesDecided.{body-decided, registers-decided}
use Rattle.file_read.specs.inner.FileDeciding.{MeansOrRefused}
use Rattle.file_read.proofs.ClassesDecided.{classes_are_decided}
use Rattle.file_classes.proofs.StaticsLaws.{at_other, at_none}

-- ---- offsets

-- all rows hold, or there is a first that breaks a rule
first_class_break : (Breaks : List ℕ → ℕ → Fault → Type 0) (Holds : List ℕ → ℕ → Type 0) (b : List ℕ) → ((i : ℕ) → i < size_of b 5 → Holds b i ⊎ ((f : Fault) × Breaks b i f)) → RowsHold Holds b (size_of b 5) ⊎ ((f : Fault) × IsFirstClass Breaks Holds b f)
first_class_break Breaks Holds b row = first_decided row

-- ---- static values

module _ (b : List ℕ) (are : AreBytes b) (framed : IsFramed b) (tables : TablesHold b) (i : ℕ) (h : ClassRowHolds b i) where
  pub value_row : ValuesHold b i ⊎ ((f : Fault) × ValuesBreak b i f)
  value_row = elim (cases_eq (class_word b i 7) 0) [
    | inl none ↦ inl ([], record { entries = h.entries; class_data = h.head.class_data; spelled = at_none (class_word b i 7) _ _ none refl })
    | inr some ↦ elim (arrays_are_decided b are framed tables (class_word b i 7) (length h.entries.statics)) [
      | inl x ↦ inl (x.0, record { entries = h.entries; class_data = h.head.class_data; spelled = at_other (class_word b i 7) _ _ some x.1 })
      | inr u ↦
          let found = tables_have_names b tables in
          inr (
            at_row (row_place b 5 i) u.0,
            record {
              entries = h.entries;
              class_data = h.head.class_data;
              some = some;
              names = found.0;
              of_file = found.1;
              own = u.0;
              breaks = (file_breaks b found.0 framed found.1 (class_word b i 7) (length h.entries.statics) u.0).1 u.1;
              moved = refl;
            },
          )
    ]
  ]

-- ---- code, in its two passes

-- what is decided at each offset is decided of each list and each row
module _ (b : List ℕ) (Holds : List ℕ → ℕ → Type 0) (Fails : List ℕ → ℕ → Fault → Type 0) where
  codes_row : (es : List MethodEntry) → ((k : ℕ) (e : MethodEntry) → slice_get es k ≡ Some e → Holds b e.1.1 ⊎ ((f : Fault) × Fails b e.1.1 f)) → EachCodeHolds Holds b es ⊎ ((f : Fault) × SomeCodeFails Holds Fails b es f)
  codes_row es here = entries_decided es (λ k e. Holds b e.1.1) (λ k e. Fails b e.1.1) here

  method_row : (i : ℕ) (entries : Entries) → EntriesAt b (class_word b i 6) entries → ((k : ℕ) (e : MethodEntry) → slice_get entries.directs k ≡ Some e → Holds b e.1.1 ⊎ ((f : Fault) × Fails b e.1.1 f))
      → ((k : ℕ) (e : MethodEntry) → slice_get entries.virtuals k ≡ Some e → Holds b e.1.1 ⊎ ((f : Fault) × Fails b e.1.1 f)) → ClassCodesHold Holds b i ⊎ ((f : Fault) × MethodsBreak Holds Fails b i f)
  method_row i entries class_data d v = elim (codes_row entries.directs d) [
    | inl directs ↦ elim (codes_row entries.virtuals v) [
      | inl virtuals ↦ inl (record { entries = entries; class_data = class_data; directs = directs; virtuals = virtuals })
      | inr f ↦ inr (f.0, record { entries = entries; class_data = class_data; breaks = inr (directs, f.1) })
    ]
    | inr f ↦ inr (f.0, record { entries = entries; class_data = class_data; breaks = inl f.1 })
  ]

module _ (b : List ℕ) (names : Names) (of_file : AreNamesOf b names) where
  module _ (bodies : (off : ℕ) → ((c : Code) × BodyStands (NameIsAt names) b off c) ⊎ ((e : Fault) × CodeBreaks (NameIsAt names) b off e)) where
    body_here : (place : ℕ) → BodyHolds b place ⊎ ((f : Fault) × BodyFails b place f)
    body_here place = elim (cases_eq place 0) [
      | inl none ↦ inl (None, at_none place _ _ none refl)
      | inr some ↦ elim (bodies place) [
        | inl c ↦ inl (Some c.0, at_other place _ _ some (record { some = c.0; is = refl; stands = body_weaker (NameIsAt names) (NameStands b) (λ k n. names_stand b names k n of_file) b place c.0 c.1 }))
        | inr u ↦ inr (u.0, record { some = some; names = names; of_file = of_file; breaks = u.1 })
      ]
    ]

  -- a body that stands is a code, or its registers break the rule
  registers_here : IsFramed b → (place : ℕ) → BodyHolds b place → CodeHolds b place ⊎ ((f : Fault) × RegistersFail b place f)
  registers_here framed place h = elim (cases_eq place 0) [
    | inl none ↦ inl (None, at_none place _ _ none refl)
    | inr some ↦
        let s = at_some place (h.0 ≡ None) (SomeBodyStands b place h.0) some h.1 in
        elim (registers-decided place s.some) [
          | inl named ↦ inl (Some s.some, at_other place _ _ some (record { some = s.some; is = refl; stands = body_code (NameStands b) b place s.some named s.stands }))
          | inr u ↦ inr (
            u.0,
            record { some = some; names = names; of_file = of_file; breaks = record { code = s.some; body = body_weaker (NameStands b) (NameIsAt names) (λ k n. stands_names b names k n framed of_file) b place s.some s.stands; breaks = u.1 } },
          )
        ]
  ]

pub bodies_decided : (b : List ℕ) → AreBytes b → IsFramed b → TablesHold b → (i : ℕ) → ClassRowHolds b i → BodiesHold b i ⊎ ((f : Fault) × BodiesBreak b i f)
bodies_decided b are framed tables i h =
    let found = tables_have_names b tables in
    let here = body_here b found.0 found.1 (body-decided b are framed found.0) in
    method_row b BodyHolds BodyFails i h.entries h.head.class_data (λ k e at. here e.1.1) (λ k e at. here e.1.1)

pub registers_decided : (b : List ℕ) → IsFramed b → TablesHold b → (i : ℕ) → BodiesHold b i → RowRegistersHold b i ⊎ ((f : Fault) × RowRegistersBreak b i f)
registers_decided b framed tables i h =
    let found = tables_have_names b tables in
    method_row b CodeHolds RegistersFail i h.entries h.class_data (λ k e at. registers_here b found.0 found.1 framed e.1.1 (h.directs k e at)) (λ k e at. registers_here b found.0 found.1 framed e.1.1 (h.virtuals k e at))

-- ---- the file

pub framed_is_decided : (b : List ℕ) → AreBytes b → IsFramed b → MeansOrRefused b
framed_is_decided b are framed = elim (tables_are_decided b framed) [
  | inr f ↦ inr (f.0, table_refused b f.0 f.1)
  | inl tables ↦ elim (classes_are_decided b framed tables) [
    | inr f ↦ inr (f.0, class_refused b f.0 framed tables f.1)
    | inl classes ↦ elim (first_class_break ValuesBreak ValuesHold b (λ i lt. value_row b are framed tables i (classes i lt))) [
      | inr f ↦ inr (f.0, value_refused b f.0 framed tables classes f.1)
      | inl values ↦
          elim (first_class_break BodiesBreak BodiesHold b (λ i lt. bodies_decided b are framed tables i (classes i lt))) [
            | inr f ↦ inr (f.0, last_refused b f.0 framed tables classes values (inl f.1))
            | inl bodies ↦ elim (first_class_break RowRegistersBreak RowRegistersHold b (λ i lt. registers_decided b framed tables i (bodies i lt))) [
              | inr f ↦ inr (f.0, last_refused b f.0 framed tables classes values (inr (bodies, f.1)))
              | inl methods ↦ inl (program_meant b framed tables classes values methods)
            ]
          ]
    ]
  ]
]

-- where no fault stands, a program is meant
pub meant_without_fault : (b : List ℕ) → MeansOrRefused b → ((f : Fault) → Broken b f → ⊥) → (p : Program) × Means b p
meant_without_fault b (inl x) none = x
meant_without_fault b (inr f) none = absurd (none f.0 (refused_broken b f.0 f.1))

-- where a fault stands, nothing is meant, and none is meant only there
pub refused_without_meaning : (b : List ℕ) → MeansOrRefused b → ((p : Program) → Means b p → ⊥) → (e : Fault) × IsRefused b e
refused_without_meaning b (inl x) none = absurd (none x.0 x.1)
refused_without_meaning b (inr f) none = f

pub decides_meant : (b : List ℕ) → MeansOrRefused b → (((f : Fault) → Broken b f → ⊥) → (p : Program) × Means b p) × (((p : Program) × Means b p) → (f : Fault) → Broken b f → ⊥)
decides_meant b d = (meant_without_fault b d, λ x f. means_clear b x.0 x.1 f)

pub decides_refused : (b : List ℕ) → MeansOrRefused b → (((f : Fault) × Broken b f) → ((p : Program) × Means b p) → ⊥) × ((((p : Program) × Means b p) → ⊥) → (f : Fault) × Broken b f)
decides_refused b d = (λ f x. means_clear b x.0 x.1 f.0 f.1, λ none. let r = refused_without_meaning b d (λ p m. none (p, m)) in (r.0, refused_broken b r.0 r.1))
