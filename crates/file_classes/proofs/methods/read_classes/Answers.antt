use Rattle.std.proofs.Common.{ℕ, ◌≡◌, rules, arith, inl, inr, map, subst, Option}
use Rattle.std.specs.Prelude.{IfSome, IfNone}
use Rattle.dex_base.specs.declared.fault.Fault.{Fault}
use Rattle.dex_container.specs.Layout.{size_of}
use Rattle.tables_rows.specs.Sorted.{RowsHold}
use Rattle.std.proofs.lemmas.List.{map-append}
use Rattle.program_types.specs.View.{class}
use Rattle.tables_rows.proofs.RowReading.{first_more}
use Rattle.file_classes.specs.ClassFaults.{BodiesBreak, BodiesHold, RowRegistersBreak, RowRegistersHold}
use Rattle.file_classes.specs.inner.ClassFaults.{IsFirstClass}
use Rattle.file_classes.specs.inner.Reading.{SpellsBodies}
use Rattle.file_classes.proofs.CachedLaws.{refused}
use Rattle.file_classes.proofs.StaticsLaws.{first_class}
use Rattle.file_classes.proofs.MethodLaws.{bodies_hold, rows_none, rows_turn, all_spelled}
use Rattle.file_classes.proofs.methods.read_classes.Goals as goal
use Rattle.dex_base.proofs.ListFacts.{passed}

pub returns-in_err-found-clause-err : goal.returns-in_err-found-clause-err
returns-in_err-found-clause-err c =
    passed _ _ _ c.from_residual-in_err-found.ensures.1 (λ ne. inl (first_class BodiesBreak BodiesHold c.args.sections.now c.loop-i.i _ (omega (arith, c.class_count-count.ensures, c.loop-i-test.true)) c.loop-i.invariant.rows.hold (c.in_err-found.ensures.err ne)))

pub returns-in_err-push-clause-err : goal.returns-in_err-push-clause-err
returns-in_err-push-clause-err c = refused _ _ c.from_residual-in_err-push.ensures.1

pub loop-i-init : goal.loop-i-init
loop-i-init c = record { rows = search rules; past = rows_none c.args.sections.now; codes = c.new-codes.ensures.codes c.args.sections.now }

pub loop-i-preserved : goal.loop-i-preserved
loop-i-preserved c = record {
  rows = rw (c.in_ok-push.ensures.items, map-append) (first_more SpellsBodies BodiesHold c.args.sections.now c.loop-i.i _ (class c.in_ok-found.found.class) c.loop-i.invariant.rows c.in_ok-found.ensures.ok (bodies_hold c.args.sections.now c.loop-i.i (class c.in_ok-found.found.class) c.in_ok-found.ensures.ok));
  past = rows_turn c.args.sections.now c.loop-i.i c.loop-i.past c.in_ok-found.found.past c.or-past.result c.or-past.ensures
      (omega (arith, c.class_count-count.ensures, c.loop-i-test.true)) c.loop-i.invariant.past c.in_ok-found.ensures.hold c.in_ok-found.ensures.past;
  codes = c.in_ok-found.ensures.codes;
}

pub returns-in-Some-clause-err : goal.returns-in-Some-clause-err
returns-in-Some-clause-err c = λ ne.
    let b = c.args.sections.now in
    let all : c.loop-i.i ≡ size_of b 5 = omega (arith, c.class_count-count.ensures, c.loop-i-test.false, c.loop-i.auto.i-end) in
    inr (
      subst (λ (n : ℕ). RowsHold BodiesHold b n) all c.loop-i.invariant.rows.hold,
      subst (λ (o : Option Fault). IfSome o (IsFirstClass RowRegistersBreak RowRegistersHold b)) c.in-Some.is c.loop-i.invariant.past.some,
    )

pub returns-clause-rows : goal.returns-clause-rows
returns-clause-rows c =
    let b = c.args.sections.now in
    let all : c.loop-i.i ≡ size_of b 5 = omega (arith, c.class_count-count.ensures, c.loop-i-test.false, c.loop-i.auto.i-end) in
    rw c.into_bump_slice.ensures (all_spelled b c.framed.ensures c.loop-i.i (map class c.loop-i.classes.items) all c.loop-i.invariant.rows
    (subst (λ (o : Option Fault). IfNone o (RowsHold RowRegistersHold b c.loop-i.i)) c.in-None.is c.loop-i.invariant.past.none))
