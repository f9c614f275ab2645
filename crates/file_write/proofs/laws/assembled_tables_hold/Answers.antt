use Rattle.tables_names.specs.Needed.{needed}
use Rattle.file_write.proofs.RowLaws.{is_framed}
use Rattle.file_write.proofs.TableLaws.{holds_exactly, tables_hold}
use Rattle.file_write.proofs.laws.assembled_tables_hold.Goals as goal

pub returns-clause-framed : goal.returns-clause-framed
returns-clause-framed c = λ b p w a. is_framed b (needed p) p a

pub returns-clause-tables : goal.returns-clause-tables
returns-clause-tables c = tables_hold

pub returns-clause-exactly : goal.returns-clause-exactly
returns-clause-exactly c = holds_exactly
