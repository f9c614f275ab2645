use Rattle.std.proofs.Common.{length, arith}
use Rattle.tables_rows.specs.Names.{NameIsAt}
use Rattle.dex_insn.proofs.StandingLaws.{stands-whole}
use Rattle.code_read.proofs.VisitLaws.{passed_none, passed_more, passed_all}
use Rattle.code_read.proofs.Lists.{zeros}
use Rattle.code_read.proofs.visiting.walk_units.Goals as goal

pub loop-at-init : goal.loop-at-init
loop-at-init c = record {
  run = passed_none (NameIsAt c.args.visitor.tables.now) c.args.units.now c.args.visitor.registers c.args.marks.now (zeros c.args.marks.now (length c.args.marks.now) c.requires.none);
  inside = omega arith;
}

pub overflow_add-at : goal.overflow_add-at
overflow_add-at c =
    let one = c.in-Some.ensures in
    let w = (stands-whole c.args.units.now c.loop-at.at one.insn one.stands).1 in
    let n = one.visited.units_are in
    omega (arith, w, n, c.requires.short)

pub loop-at-smaller : goal.loop-at-smaller
loop-at-smaller c =
    let one = c.in-Some.ensures in
    let w = (stands-whole c.args.units.now c.loop-at.at one.insn one.stands).0 in
    let n = one.visited.units_are in
    let a = c.loop-at.auto.marks in
    omega (arith, w, n, a, c.loop-at-test.true)

pub loop-at-preserved : goal.loop-at-preserved
loop-at-preserved c =
    let one = c.in-Some.ensures in
    let w = (stands-whole c.args.units.now c.loop-at.at one.insn one.stands).1 in
    let n = one.visited.units_are in
    let a = c.loop-at.auto.marks in
    let b = one.marked.size in
    record {
      run = passed_more (NameIsAt c.args.visitor.tables.now) c.args.units.now c.args.visitor.registers c.loop-at.marks c.pass.new.marks c.loop-at.at c.in-Some.count c.loop-at.invariant.run one;
      inside = omega (arith, w, n, a, b, c.requires.even);
    }

pub returns : goal.returns
returns c = λ all.
    let inside = c.loop-at.invariant.inside in
    let a = c.loop-at.auto.marks in
    passed_all (NameIsAt c.args.visitor.tables.now) c.args.units.now c.args.visitor.registers c.loop-at.marks c.loop-at.at c.loop-at.invariant.run c.requires.short
    (omega (arith, inside, a, c.requires.even, c.loop-at-test.false)) (c.all_begin.ensures all)
