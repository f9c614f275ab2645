use Rattle.std.proofs.Common.{sym, ◌∙◌}
use Rattle.dex_base.specs.Fault.{unknown, no_fault}
use Rattle.dex_base.specs.inner.Fault.{row_name, row_sentence}
use Rattle.dex_base.proofs.FaultLaws.{row_here, row_after}
use Rattle.dex_base.proofs.fault_names.row_in.Goals as goal

pub returns-then-row-number-clause-name : goal.returns-then-row-number-clause-name
returns-then-row-number-clause-name c = sym (row_here row_name c.args.table.now c.loop-row.row-index _ unknown c.args.number c.loop-row-test.true c.if-row-number.true) ∙ c.loop-row.invariant.0

pub returns-then-row-number-clause-says : goal.returns-then-row-number-clause-says
returns-then-row-number-clause-says c = sym (row_here row_sentence c.args.table.now c.loop-row.row-index _ no_fault c.args.number c.loop-row-test.true c.if-row-number.true) ∙ c.loop-row.invariant.1

pub loop-row-preserved : goal.loop-row-preserved
loop-row-preserved c = (
  sym (row_after row_name c.args.table.now c.loop-row.row-index _ unknown c.args.number c.loop-row-test.true c.if-row-number.false) ∙ c.loop-row.invariant.0,
  sym (row_after row_sentence c.args.table.now c.loop-row.row-index _ no_fault c.args.number c.loop-row-test.true c.if-row-number.false) ∙ c.loop-row.invariant.1,
)
