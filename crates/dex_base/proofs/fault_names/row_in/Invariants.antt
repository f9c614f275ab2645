use Rattle.std.proofs.Common.{◌≡◌, map, drop}
use Rattle.dex_base.specs.Fault.{column_text, unknown, no_fault}
use Rattle.dex_base.specs.inner.Fault.{row_number, row_name, row_sentence}
use Rattle.dex_base.proofs.fault_names.row_in.Given as goal

abbrev pub invariant-loop-row : goal.invariant-loop-row
invariant-loop-row l =
    (column_text (map row_number (drop l.row-index l.table)) (map row_name (drop l.row-index l.table)) unknown l.number ≡ column_text (map row_number l.table) (map row_name l.table) unknown l.number)
    × (column_text (map row_number (drop l.row-index l.table)) (map row_sentence (drop l.row-index l.table)) no_fault l.number ≡ column_text (map row_number l.table) (map row_sentence l.table) no_fault l.number)
