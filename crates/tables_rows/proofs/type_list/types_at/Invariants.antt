use Rattle.std.proofs.Common.{map, take}
use Rattle.std.specs.List.{AllZip}
use Rattle.program_types.specs.View.{desc}
use Rattle.tables_rows.specs.inner.Halves.{halves}
use Rattle.tables_rows.specs.Names.{TypeIsAt}
use Rattle.tables_rows.proofs.type_list.types_at.Given as goal

abbrev pub invariant-loop-j : goal.invariant-loop-j
invariant-loop-j l = AllZip (TypeIsAt (map desc l.types)) (take l.j (halves l.indexes)) (map desc l.list.items)
