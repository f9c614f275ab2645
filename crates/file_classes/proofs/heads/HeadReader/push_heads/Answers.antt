use Rattle.file_classes.proofs.CachedLaws.{refused}
use Rattle.std.proofs.Common.{rules, arith}
use Rattle.tables_rows.proofs.RowReading.{first_row, first_more}
use Rattle.file_classes.specs.ClassFaults.{ClassRowBreaks, ClassRowHolds}
use Rattle.file_classes.specs.inner.Reading.{IsHead}
use Rattle.file_classes.proofs.heads.HeadReader.push_heads.Goals as goal
use Rattle.dex_base.proofs.ListFacts.{passed}

pub returns-in_err-head-clause-err : goal.returns-in_err-head-clause-err
returns-in_err-head-clause-err c =
    passed _ _ _ c.from_residual.ensures.1 (λ ne. first_row ClassRowBreaks ClassRowHolds c.args.self.now.sections.now 5 c.loop-i.i _ (omega (arith, c.class_count-i-end.ensures, c.loop-i-test.true)) c.loop-i.invariant.0.hold (c.in_err-head.ensures.err ne))

pub loop-i-init : goal.loop-i-init
loop-i-init c = (search rules, c.requires.cached)

pub loop-i-preserved : goal.loop-i-preserved
loop-i-preserved c = (
  rw c.in_ok-push.ensures.items (first_more IsHead ClassRowHolds c.args.self.now.sections.now c.loop-i.i _ c.in_ok-head.head c.loop-i.invariant.0 c.in_ok-head.ensures.ok c.in_ok-head.ensures.holds),
  c.in_ok-head.ensures.cached,
)

pub returns-in_err-push-clause-err : goal.returns-in_err-push-clause-err
returns-in_err-push-clause-err c = refused _ _ c.from_residual-in_err-push.ensures.1
