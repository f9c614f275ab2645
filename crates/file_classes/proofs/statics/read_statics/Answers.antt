use Rattle.std.proofs.Common.{rules, arith, subst}
use Rattle.tables_rows.proofs.CachedLaws.{cached_none}
use Rattle.tables_rows.proofs.RowReading.{first_more}
use Rattle.file_classes.specs.ClassFaults.{ValuesBreak, ValuesHold, ValuesStand}
use Rattle.file_classes.specs.inner.Reading.{AreStatics}
use Rattle.file_classes.proofs.StaticsLaws.{first_class}
use Rattle.file_classes.proofs.statics.read_statics.Goals as goal
use Rattle.dex_base.proofs.ListFacts.{passed}

pub returns-in_err-values-clause-err : goal.returns-in_err-values-clause-err
returns-in_err-values-clause-err c =
    passed _ _ _ c.from_residual-in_err-values.ensures.1 (λ ne. first_class ValuesBreak ValuesHold c.args.sections.now c.loop-i.i _ (omega (arith, c.class_count-count.ensures, c.loop-i-test.true)) c.loop-i.invariant.0.hold (c.in_err-values.ensures.err ne))

pub loop-i-init : goal.loop-i-init
loop-i-init c = (search rules, cached_none _ c.new-cached.result c.new-cached.ensures.empty)

pub loop-i-preserved : goal.loop-i-preserved
loop-i-preserved c =
    let a = c.in_ok-values.ensures.ok in (
      rw c.in_ok-push.ensures.items (first_more AreStatics ValuesHold c.args.sections.now c.loop-i.i _ (record { values = c.in_ok-values.values }) c.loop-i.invariant.0
          (subst (ValuesStand c.args.sections.now c.loop-i.i) a.2 a.1) (a.0, a.1)),
      c.in_ok-values.ensures.cached,
    )
