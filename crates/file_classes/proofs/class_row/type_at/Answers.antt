use Rattle.std.proofs.Common.{sym}
use Rattle.program_types.specs.View.{desc}
use Rattle.tables_rows.specs.Stands.{TypeStands}
use Rattle.file_classes.proofs.HeadLaws.{row_missing}
use Rattle.file_classes.proofs.class_row.type_at.Goals as goal

pub returns-in-Some-clause-some : goal.returns-in-Some-clause-some
returns-in-Some-clause-some c = c.requires.types.each c.args.index (desc c.in-Some.ty) (sym c.in-Some.ensures)

pub returns-in-None-clause-none : goal.returns-in-None-clause-none
returns-in-None-clause-none c = row_missing TypeStands c.args.sections.now 1 c.args.index c.args.tables.now.types c.requires.types c.in-None.ensures
