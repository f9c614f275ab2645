use Rattle.tables_rows.proofs.NoFault as law
use Rattle.tables_rows.proofs.row_laws.tables_hold_without_fault.Goals as goal

pub returns-clause-hold : goal.returns-clause-hold
returns-clause-hold c = law.without_fault

pub returns-clause-clear : goal.returns-clause-clear
returns-clause-clear c = law.with_tables
