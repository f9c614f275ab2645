-- Beside ClassFaults.antt: what no promise reaches.
use Rattle.std.specs.Prelude.{◌≢◌, ℕ, List}
use Rattle.dex_base.specs.declared.fault.Fault.{Fault}
use Rattle.dex_base.specs.Descriptor.{IsClass}
use Rattle.dex_base.specs.FirstFault.{First}
use Rattle.dex_container.specs.Layout.{size_of}
use Rattle.dex_container.specs.Section as section
use Rattle.program_types.specs.Content.{Units}
use Rattle.tables_rows.specs.Sorted.{RowsHold}
use Rattle.tables_rows.specs.Stands.{TypeStands}
use Rattle.file_classes.specs.ClassRows.{no_index, InOrder, class_data_off, class_idx, interfaces_off, superclass_idx}
use Rattle.file_classes.specs.ClassData.{Entries, EntriesAt}
use Rattle.file_classes.specs.Classes.{InterfacesAt}
use Rattle.file_classes.specs.ClassFaults.{FieldEntriesHold, MethodEntriesHold, NamesAreIn, ClassRowHolds}

-- All four lists hold.
pub record MembersHold (b : List ℕ) (class : Units) (e : Entries) : Type 0 where
  pub statics : FieldEntriesHold b class e.statics
  pub instances : FieldEntriesHold b class e.instances
  pub directs : MethodEntriesHold b class e.directs
  pub virtuals : MethodEntriesHold b class e.virtuals

-- Each of these rules is kept, checked alone.
pub record ClassRowKeeps (b : List ℕ) (i : ℕ) : Type 0 where
  pub names : NamesAreIn b i
  pub class : (t : Units) → TypeStands b (class_idx b i) t → IsClass t
  pub superclass : superclass_idx b i ≢ no_index → (t : Units) → TypeStands b (superclass_idx b i) t → IsClass t
  pub interfaces : (ts : List Units) × InterfacesAt b (interfaces_off b i) ts
  pub order : InOrder b i
  pub class_data : (e : Entries) × EntriesAt b (class_data_off b i) e
  pub members : (class : Units) (e : Entries) → TypeStands b (class_idx b i) class → EntriesAt b (class_data_off b i) e → MembersHold b class e

-- All rows hold.
abbrev pub ClassRowsHold : List ℕ → Type 0
ClassRowsHold b = RowsHold ClassRowHolds b (size_of b section.class_defs)

-- The fault is that of a class row, and all rows before it hold.
abbrev pub IsFirstClass : (List ℕ → ℕ → Fault → Type 0) → (List ℕ → ℕ → Type 0) → List ℕ → Fault → Type 0
IsFirstClass Breaks Holds b = First (size_of b section.class_defs) (Holds b) (Breaks b)
