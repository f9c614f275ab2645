use Rattle.std.proofs.Common.{below_more, arith}
use Rattle.tables_rows.proofs.CachedLaws.{cached_none}
use Rattle.file_classes.specs.ClassFaults.{ValuesBreak, ValuesHold}
use Rattle.file_classes.proofs.StaticsLaws.{first_class}
use Rattle.file_classes.proofs.statics.check_statics.Goals as goal
use Rattle.dex_base.proofs.ListFacts.{passed}

pub loop-i-init : goal.loop-i-init
loop-i-init c = record { hold = λ i lt. absurd (omega (arith, lt)); cached = cached_none _ c.new-cached.result c.new-cached.ensures.empty }

pub loop-i-preserved : goal.loop-i-preserved
loop-i-preserved c =
    let a = c.in_ok-row_values.ensures.ok in
    record { hold = below_more _ _ c.loop-i.invariant.hold (a.0, a.1); cached = c.in_ok-row_values.ensures.cached }

pub returns-in_err-row_values-clause-err : goal.returns-in_err-row_values-clause-err
returns-in_err-row_values-clause-err c =
    passed _ _ _ c.from_residual.ensures.1 (λ ne. first_class ValuesBreak ValuesHold c.args.sections.now c.loop-i.i _ (omega (arith, c.class_count-i-end.ensures, c.loop-i-test.true)) c.loop-i.invariant.hold (c.in_err-row_values.ensures.err ne))
