-- Why a file is not read: its first fault.
-- Page: docs/FORMAT.md, "Faults of a file".
use Rattle.std.specs.Prelude.{ℕ, List}
use Rattle.dex_base.specs.declared.fault.Fault.{Fault}
use Rattle.dex_base.specs.FirstFault.{or_later}
use Rattle.dex_container.specs.Faults.{IsFrameFault}
use Rattle.dex_container.specs.Frame.{IsFramed}
use Rattle.dex_container.specs.Section as section
use Rattle.tables_rows.specs.TableFaults.{or_table, or_tables}
use Rattle.file_classes.specs.ClassFaults.{ClassRowBreaks, ClassRowHolds, ValuesBreak, ValuesHold, BodiesBreak, BodiesHold, RowRegistersBreak, RowRegistersHold, or_class}

-- The first fault, in this order: header, map and checksums; the tables of names; the class rows; the static values; the
-- code; its registers. Each is checked only if all before it hold.
abbrev pub IsRefused : List ℕ → Fault → Type 0
IsRefused b fault =
    or_later (IsFrameFault b fault) (IsFramed b) (
    or_tables b fault (
    or_table ClassRowBreaks ClassRowHolds b section.class_defs fault (
    or_class ValuesBreak ValuesHold b fault (
    or_class BodiesBreak BodiesHold b fault (
    or_class RowRegistersBreak RowRegistersHold b fault ⊥)))))
