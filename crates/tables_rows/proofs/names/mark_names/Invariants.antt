use Rattle.std.proofs.Common.{map}
use Rattle.program_types.specs.View.{str}
use Rattle.tables_rows.proofs.Marks.{MarkFirst}
use Rattle.tables_rows.proofs.names.mark_names.Given as goal

abbrev pub invariant-loop-string : goal.invariant-loop-string
invariant-loop-string l = MarkFirst (map str l.strings) l.names.items l.string-index
