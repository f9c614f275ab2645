use Rattle.std.proofs.Common.{inl, subst, List, ℕ}
use Rattle.tables_rows.proofs.ClearRows.{only_memory}
use Rattle.file_read.specs.Refused.{IsRefused}
use Rattle.file_read.proofs.PassLaws.{no_class_fault, no_value_fault, no_last_fault, class_refused, value_refused, last_refused, table_refused, means_these, program_one}
use Rattle.file_read.proofs.RangeLaws.{well_formed}
use Rattle.file_read.proofs.reading.read.Goals as goal
use Rattle.dex_base.proofs.ListFacts.{passed}

pub returns-in_err-sections-clause-refused : goal.returns-in_err-sections-clause-refused
returns-in_err-sections-clause-refused c = passed _ _ _ c.from_residual.ensures.1 (λ ne. inl c.in_err-sections.ensures.fault)

pub returns-in_err-tables-clause-refused : goal.returns-in_err-tables-clause-refused
returns-in_err-tables-clause-refused c =
    let same = c.in_ok-sections.ensures.framed.0 in
    passed _ _ _ c.from_residual-in_err-tables.ensures.1 (λ ne. subst (λ (b : List ℕ). IsRefused b c.in_err-tables.field-0.0) same (table_refused _ _ (c.in_err-tables.ensures.refused ne)))

pub returns-in_err-heads-clause-refused : goal.returns-in_err-heads-clause-refused
returns-in_err-heads-clause-refused c =
    let same = c.in_ok-sections.ensures.framed.0 in
    passed _ _ _ c.from_residual-in_err-heads.ensures.1 (λ ne. subst (λ (b : List ℕ). IsRefused b c.in_err-heads.field-0.0) same
    (class_refused _ _ (rw same c.in_ok-sections.ensures.framed.1) c.in_ok-tables.ensures.hold (c.in_err-heads.ensures.err ne)))

pub returns-in_err-statics-clause-refused : goal.returns-in_err-statics-clause-refused
returns-in_err-statics-clause-refused c =
    let same = c.in_ok-sections.ensures.framed.0 in
    passed _ _ _ c.from_residual-in_err-statics.ensures.1 (λ ne. subst (λ (b : List ℕ). IsRefused b c.in_err-statics.field-0.0) same
    (value_refused _ _ (rw same c.in_ok-sections.ensures.framed.1) c.in_ok-tables.ensures.hold c.in_ok-heads.ensures.hold (c.in_err-statics.ensures.err ne)))

pub returns-in_err-classes-clause-refused : goal.returns-in_err-classes-clause-refused
returns-in_err-classes-clause-refused c =
    let same = c.in_ok-sections.ensures.framed.0 in
    passed _ _ _ c.from_residual-in_err-classes.ensures.1 (λ ne. subst (λ (b : List ℕ). IsRefused b c.in_err-classes.field-0.0) same
    (last_refused _ _ (rw same c.in_ok-sections.ensures.framed.1) c.in_ok-tables.ensures.hold c.in_ok-heads.ensures.hold c.in_ok-statics.ensures.hold (c.in_err-classes.ensures.err ne)))

pub returns-in_err-heads-clause-only : goal.returns-in_err-heads-clause-only
returns-in_err-heads-clause-only c =
    let same = c.in_ok-sections.ensures.framed.0 in
    λ p m. passed _ _ _ c.from_residual-in_err-heads.ensures.1 (only_memory _ (λ ne. no_class_fault _ p _ (rw same m) (c.in_err-heads.ensures.err ne)))

pub returns-in_err-statics-clause-only : goal.returns-in_err-statics-clause-only
returns-in_err-statics-clause-only c =
    let same = c.in_ok-sections.ensures.framed.0 in
    λ p m. passed _ _ _ c.from_residual-in_err-statics.ensures.1 (only_memory _ (λ ne. no_value_fault _ p _ (rw same m) (c.in_err-statics.ensures.err ne)))

pub returns-in_err-classes-clause-only : goal.returns-in_err-classes-clause-only
returns-in_err-classes-clause-only c =
    let same = c.in_ok-sections.ensures.framed.0 in
    λ p m. passed _ _ _ c.from_residual-in_err-classes.ensures.1 (only_memory _ (λ ne. no_last_fault _ p _ (rw same m) (c.in_err-classes.ensures.err ne)))

pub returns-clause-means : goal.returns-clause-means
returns-clause-means c =
    let same = c.in_ok-sections.ensures.framed.0 in
    rw (← same) (means_these _ _ (rw same c.in_ok-sections.ensures.framed.1) c.in_ok-tables.ensures.hold c.in_ok-heads.ensures.hold c.in_ok-classes.ensures.rows)

pub returns-clause-one : goal.returns-clause-one
returns-clause-one c =
    let same = c.in_ok-sections.ensures.framed.0 in
    λ q n. program_one c.args.bytes.now q _ n (rw (← same) (means_these _ _ (rw same c.in_ok-sections.ensures.framed.1) c.in_ok-tables.ensures.hold c.in_ok-heads.ensures.hold c.in_ok-classes.ensures.rows))

pub returns-clause-formed : goal.returns-clause-formed
returns-clause-formed c =
    let same = c.in_ok-sections.ensures.framed.0 in
    well_formed c.args.bytes.now c.are_bytes.ensures.each _ (rw (← same) (means_these _ _ (rw same c.in_ok-sections.ensures.framed.1) c.in_ok-tables.ensures.hold c.in_ok-heads.ensures.hold c.in_ok-classes.ensures.rows))
