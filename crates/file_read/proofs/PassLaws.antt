-- The passes over the class rows, put together.
use Rattle.std.proofs.Common.{◌≡◌, ℕ, ◌<◌, ◌⊎◌, inl, inr, List, sym, ◌∙◌, arith}
use Rattle.dex_base.specs.declared.fault.Fault.{Fault}
use Rattle.dex_container.specs.Frame.{IsFramed}
use Rattle.dex_container.specs.Layout.{size_of}
use Rattle.program_types.specs.Content.{Class, Program}
use Rattle.tables_rows.specs.Names.{AreRows}
use Rattle.tables_rows.specs.Sorted.{RowsHold, TablesHold}
use Rattle.tables_rows.specs.TableFaults.{or_tables, IsTableFault}
use Rattle.tables_rows.specs.inner.TableFaults.{IsFirstRow}
use Rattle.file_classes.specs.ClassFaults.{ClassRowBreaks, ClassRowHolds, ValuesBreak, ValuesHold, BodiesBreak, BodiesHold, RowRegistersBreak, RowRegistersHold}
use Rattle.file_classes.specs.inner.ClassFaults.{ClassRowsHold, IsFirstClass}
use Rattle.file_classes.specs.Classes.{SpellsClass}
use Rattle.file_classes.specs.ClassRows.{InOrder}
use Rattle.file_read.specs.Means.{Means}
use Rattle.file_read.specs.Refused.{IsRefused}
use Rattle.file_classes.proofs.EntryLaws.{entry_at, list_same}
use Rattle.file_classes.proofs.OnceLaws.{class_one}
use Rattle.file_classes.proofs.MeantLaws.{build, class_meant}
use Rattle.file_classes.proofs.MethodLaws.{methods_hold, registers_bodies}
use Rattle.file_classes.proofs.RowFaults.{class_clear}
use Rattle.file_classes.proofs.ClearLaws.{values_clear, bodies_clear, methods_clear}

-- a class that a row spells keeps the rules of all three passes
class_holds : (b : List ℕ) (i : ℕ) (c : Class) → SpellsClass b i c → InOrder b i → ClassRowHolds b i
class_holds b i c s order = record { entries = s.entries; class = c; head = s.head; order = order }

values_hold : (b : List ℕ) (i : ℕ) (c : Class) → SpellsClass b i c → ValuesHold b i
values_hold b i c s = (c.values, record { entries = s.entries; class_data = s.head.class_data; spelled = s.values })

-- what a file that means a program holds
module _ (b : List ℕ) (p : Program) (m : Means b p) where
  each : (P : ℕ → Type 0) → ((i : ℕ) (c : Class) → i < size_of b 5 → SpellsClass b i c → P i) → (i : ℕ) → i < size_of b 5 → P i
  each P f i lt =
      let c = entry_at p i (let n = m.classes.count in omega (arith, n, lt)) in
      f i c.0 lt (m.classes.each i c.0 c.1)

  pub means_classes : ClassRowsHold b
  means_classes = each (ClassRowHolds b) (λ i c lt s. class_holds b i c s (m.order i lt))

  pub means_values : RowsHold ValuesHold b (size_of b 5)
  means_values = each (ValuesHold b) (λ i c lt s. values_hold b i c s)

  pub means_methods : RowsHold RowRegistersHold b (size_of b 5)
  means_methods = each (RowRegistersHold b) (λ i c lt s. methods_hold b i c s)

  pub means_bodies : RowsHold BodiesHold b (size_of b 5)
  means_bodies i lt = registers_bodies b i (means_methods i lt)

-- no first fault where all rows hold
pub no_first_class : (Breaks : List ℕ → ℕ → Fault → Type 0) (Holds : List ℕ → ℕ → Type 0) (b : List ℕ) (e : Fault) → ((i : ℕ) → Holds b i → Breaks b i e → ⊥) → RowsHold Holds b (size_of b 5) → IsFirstClass Breaks Holds b e → ⊥
no_first_class Breaks Holds b e clear all first = clear first.number (all first.number first.within) first.breaks

pub no_class_fault : (b : List ℕ) (p : Program) (e : Fault) → Means b p → IsFirstRow ClassRowBreaks ClassRowHolds b 5 e → ⊥
no_class_fault b p e m first = class_clear b m.framed first.number e.code (means_classes b p m first.number first.within) first.breaks.breaks

pub no_value_fault : (b : List ℕ) (p : Program) (e : Fault) → Means b p → IsFirstClass ValuesBreak ValuesHold b e → ⊥
no_value_fault b p e m first = no_first_class ValuesBreak ValuesHold b e (λ i. values_clear b m.framed i e) (means_values b p m) first

pub no_code_fault : (b : List ℕ) (p : Program) (e : Fault) → Means b p → IsFirstClass BodiesBreak BodiesHold b e → ⊥
no_code_fault b p e m first = no_first_class BodiesBreak BodiesHold b e (λ i. bodies_clear b m.framed i e) (means_bodies b p m) first

pub no_register_fault : (b : List ℕ) (p : Program) (e : Fault) → Means b p → IsFirstClass RowRegistersBreak RowRegistersHold b e → ⊥
no_register_fault b p e m first = no_first_class RowRegistersBreak RowRegistersHold b e (λ i. methods_clear b m.framed i e) (means_methods b p m) first

-- the third pass refuses nothing where a program is meant
pub no_last_fault : (b : List ℕ) (p : Program) (e : Fault) → Means b p → IsFirstClass BodiesBreak BodiesHold b e ⊎ (RowsHold BodiesHold b (size_of b 5) × IsFirstClass RowRegistersBreak RowRegistersHold b e) → ⊥
no_last_fault b p e m (inl f) = no_code_fault b p e m f
no_last_fault b p e m (inr f) = no_register_fault b p e m f.1

-- ---- a refusal of each pass, where those before it refuse nothing

after_tables : {P : Type 0} (b : List ℕ) (e : Fault) → TablesHold b → P → or_tables b e P
after_tables b e tables p = inr (tables.strings, inr (tables.types, inr (tables.protos, inr (tables.fields, inr (tables.methods, p)))))

tables_then : {P : Type 0} (b : List ℕ) (e : Fault) → or_tables b e ⊥ → or_tables b e P
tables_then b e (inl x) = inl x
tables_then b e (inr (s, inl x)) = inr (s, inl x)
tables_then b e (inr (s, inr (t, inl x))) = inr (s, inr (t, inl x))
tables_then b e (inr (s, inr (t, inr (p, inl x)))) = inr (s, inr (t, inr (p, inl x)))
tables_then b e (inr (s, inr (t, inr (p, inr (f, inl x))))) = inr (s, inr (t, inr (p, inr (f, inl x))))
tables_then b e (inr (s, inr (t, inr (p, inr (f, inr (m, none)))))) = absurd none

pub table_refused : (b : List ℕ) (e : Fault) → IsTableFault b e → IsRefused b e
table_refused b e x = inr (x.0, tables_then b e x.1)

module _ (b : List ℕ) (e : Fault) (framed : IsFramed b) (tables : TablesHold b) where
  pub class_refused : IsFirstRow ClassRowBreaks ClassRowHolds b 5 e → IsRefused b e
  class_refused x = inr (framed, after_tables b e tables (inl x))

  pub value_refused : ClassRowsHold b → IsFirstClass ValuesBreak ValuesHold b e → IsRefused b e
  value_refused classes x = inr (framed, after_tables b e tables (inr (classes, inl x)))

  pub last_refused : ClassRowsHold b → RowsHold ValuesHold b (size_of b 5) → IsFirstClass BodiesBreak BodiesHold b e ⊎ (RowsHold BodiesHold b (size_of b 5) × IsFirstClass RowRegistersBreak RowRegistersHold b e) → IsRefused b e
  last_refused classes values (inl x) = inr (framed, after_tables b e tables (inr (classes, inr (values, inl x))))
  last_refused classes values (inr x) = inr (framed, after_tables b e tables (inr (classes, inr (values, inr (x.0, inl x.1)))))

-- the program of classes that the rows spell
pub means_these : (b : List ℕ) (p : Program) → IsFramed b → TablesHold b → ClassRowsHold b → AreRows SpellsClass b 5 p → Means b p
means_these b p framed tables hold rows = record { framed = framed; tables = tables; classes = rows; order = λ i lt. (hold i lt).order }

-- where all rows keep the rules of all passes, the file means some program
pub program_meant : (b : List ℕ) → IsFramed b → TablesHold b → ClassRowsHold b → RowsHold ValuesHold b (size_of b 5) → RowsHold RowRegistersHold b (size_of b 5) → (p : Program) × Means b p
program_meant b framed tables classes values codes =
    let built = build (SpellsClass b) (size_of b 5) (λ i lt. class_meant b framed i (classes i lt) (values i lt) (codes i lt)) in
    (built.0, record { framed = framed; tables = tables; classes = record { count = built.1; each = built.2 }; order = λ i lt. (classes i lt).order })

-- a file means one program
pub program_one : (b : List ℕ) (p q : Program) → Means b p → Means b q → p ≡ q
program_one b p q m n =
    list_same p q (m.classes.count ∙ sym n.classes.count) (λ i c d at_c at_d. class_one b m.framed i c d (m.classes.each i c at_c) (n.classes.each i d at_d))
