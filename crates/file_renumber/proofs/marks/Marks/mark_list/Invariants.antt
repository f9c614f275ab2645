use Rattle.std.proofs.Common.{List, map, take}
use Rattle.program_types.specs.Content.{Units, OfDesc}
use Rattle.tables_rows.specs.Stands.{TypesAt}
use Rattle.file_renumber.specs.inner.Marked.{AddsNames}
use Rattle.file_renumber.proofs.marks.Marks.mark_list.Given as goal

abbrev pub invariant-loop-j : goal.invariant-loop-j
invariant-loop-j l = (ts : List Units) → TypesAt l.sections l.off ts → AddsNames l.sections l.fn.self l.self (map OfDesc (take l.j ts))
