use Rattle.tables_rows.proofs.OneFault as law
use Rattle.tables_rows.proofs.row_laws.one_table_fault.Goals as goal

pub returns : goal.returns
returns c = law.one_table_fault
