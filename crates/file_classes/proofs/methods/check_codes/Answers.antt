use Rattle.std.proofs.Common.{ℕ, ◌≡◌, below_more, arith, inl, inr, subst, Option}
use Rattle.std.specs.Prelude.{IfSome, IfNone}
use Rattle.dex_base.specs.declared.fault.Fault.{Fault}
use Rattle.dex_container.specs.Layout.{size_of}
use Rattle.tables_rows.specs.Sorted.{RowsHold}
use Rattle.file_classes.specs.ClassFaults.{BodyHolds, BodiesBreak, BodiesHold, RowRegistersBreak, RowRegistersHold}
use Rattle.file_classes.specs.inner.ClassFaults.{IsFirstClass}
use Rattle.file_classes.proofs.StaticsLaws.{first_class}
use Rattle.file_classes.proofs.MethodLaws.{all_hold, rows_none, rows_turn}
use Rattle.file_classes.proofs.methods.check_codes.Goals as goal
use Rattle.dex_base.proofs.ListFacts.{passed}
use Rattle.tables_rows.proofs.CachedLaws.{cached_none}

pub loop-i-init : goal.loop-i-init
loop-i-init c = record { hold = λ i lt. absurd (omega (arith, lt)); past = rows_none c.args.sections.now; cached = cached_none _ c.new-cached.result c.new-cached.ensures.empty }

pub loop-i-preserved : goal.loop-i-preserved
loop-i-preserved c = record {
  hold = below_more _ _ c.loop-i.invariant.hold (all_hold c.args.sections.now c.framed.ensures c.loop-i.i c.head_at-head.result c.head_at-head.ensures BodyHolds c.in_ok-found.ensures.directs.1.hold c.in_ok-found.ensures.virtuals.1.hold);
  past = rows_turn c.args.sections.now c.loop-i.i c.loop-i.past c.in_ok-found.found.past c.or-past.result c.or-past.ensures
      (omega (arith, c.class_count-i-end.ensures, c.loop-i-test.true)) c.loop-i.invariant.past c.in_ok-found.ensures.hold c.in_ok-found.ensures.past;
  cached = c.in_ok-found.ensures.cached;
}

pub returns-in_err-found-clause-err : goal.returns-in_err-found-clause-err
returns-in_err-found-clause-err c =
    passed _ _ _ c.from_residual.ensures.1 (λ ne. inl (first_class BodiesBreak BodiesHold c.args.sections.now c.loop-i.i _ (omega (arith, c.class_count-i-end.ensures, c.loop-i-test.true)) c.loop-i.invariant.hold (c.in_err-found.ensures.err ne)))

pub returns-in-Some-clause-err : goal.returns-in-Some-clause-err
returns-in-Some-clause-err c = λ ne.
    let b = c.args.sections.now in
    let all : c.loop-i.i ≡ size_of b 5 = omega (arith, c.class_count-i-end.ensures, c.loop-i-test.false, c.loop-i.auto.i-end) in
    inr (
      subst (λ (n : ℕ). RowsHold BodiesHold b n) all c.loop-i.invariant.hold,
      subst (λ (o : Option Fault). IfSome o (IsFirstClass RowRegistersBreak RowRegistersHold b)) c.in-Some.is c.loop-i.invariant.past.some,
    )

pub returns-clause-hold : goal.returns-clause-hold
returns-clause-hold c =
    let b = c.args.sections.now in
    let all : c.loop-i.i ≡ size_of b 5 = omega (arith, c.class_count-i-end.ensures, c.loop-i-test.false, c.loop-i.auto.i-end) in
    subst (λ (n : ℕ). RowsHold RowRegistersHold b n) all (subst (λ (o : Option Fault). IfNone o (RowsHold RowRegistersHold b c.loop-i.i)) c.in-None.is c.loop-i.invariant.past.none)
