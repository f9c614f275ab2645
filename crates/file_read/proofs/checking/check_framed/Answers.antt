use Rattle.tables_rows.proofs.ClearRows.{only_memory}
use Rattle.file_read.proofs.PassLaws.{no_class_fault, no_value_fault, no_last_fault, class_refused, value_refused, last_refused, program_meant, table_refused}
use Rattle.file_read.proofs.checking.check_framed.Goals as goal
use Rattle.dex_base.proofs.ListFacts.{passed}

pub returns-in_err-tables-clause-refused : goal.returns-in_err-tables-clause-refused
returns-in_err-tables-clause-refused c =
    passed _ _ _ c.from_residual.ensures.1 (λ ne. table_refused _ _ (c.in_err-tables.ensures.refused ne))

pub returns-in_err-heads-clause-refused : goal.returns-in_err-heads-clause-refused
returns-in_err-heads-clause-refused c =
    passed _ _ _ c.from_residual-in_err-heads.ensures.1 (λ ne. class_refused _ _ c.framed.ensures c.in_ok-tables.ensures.hold (c.in_err-heads.ensures.err ne))

pub returns-in_err-check_statics-clause-refused : goal.returns-in_err-check_statics-clause-refused
returns-in_err-check_statics-clause-refused c =
    passed _ _ _ c.from_residual-in_err-check_statics.ensures.1 (λ ne. value_refused _ _ c.framed.ensures c.in_ok-tables.ensures.hold c.in_ok-heads.ensures.hold (c.in_err-check_statics.ensures.err ne))

pub returns-in_err-check_codes-clause-refused : goal.returns-in_err-check_codes-clause-refused
returns-in_err-check_codes-clause-refused c =
    passed _ _ _ c.from_residual-in_err-check_codes.ensures.1 (λ ne. last_refused _ _ c.framed.ensures c.in_ok-tables.ensures.hold c.in_ok-heads.ensures.hold c.in_ok-check_statics.ensures.hold (c.in_err-check_codes.ensures.err ne))

pub returns-in_err-heads-clause-only : goal.returns-in_err-heads-clause-only
returns-in_err-heads-clause-only c =
    λ p m. passed _ _ _ c.from_residual-in_err-heads.ensures.1 (only_memory _ (λ ne. no_class_fault _ p _ m (c.in_err-heads.ensures.err ne)))

pub returns-in_err-check_statics-clause-only : goal.returns-in_err-check_statics-clause-only
returns-in_err-check_statics-clause-only c =
    λ p m. passed _ _ _ c.from_residual-in_err-check_statics.ensures.1 (only_memory _ (λ ne. no_value_fault _ p _ m (c.in_err-check_statics.ensures.err ne)))

pub returns-in_err-check_codes-clause-only : goal.returns-in_err-check_codes-clause-only
returns-in_err-check_codes-clause-only c =
    λ p m. passed _ _ _ c.from_residual-in_err-check_codes.ensures.1 (only_memory _ (λ ne. no_last_fault _ p _ m (c.in_err-check_codes.ensures.err ne)))

pub returns-clause-means : goal.returns-clause-means
returns-clause-means c =
    (program_meant _ c.framed.ensures c.in_ok-tables.ensures.hold c.in_ok-heads.ensures.hold c.in_ok-check_statics.ensures.hold c.in_ok-check_codes.ensures.hold)
