use Rattle.std.proofs.Common.{◌≡◌, ◌/◌, ◌+◌, ◌*◌, ℕ, length, take, sym, subst, arith}
use Rattle.std.specs.List.{flat_map}
use Rattle.program_types.specs.Mentions.{names_of_insn}
use Rattle.file_renumber.proofs.MarkLemmas.{has_marks_after}
use Rattle.file_renumber.proofs.WalkLemmas.{MarkedTo, says_next, marked_start, marked_more, marked_end}
use Rattle.file_renumber.proofs.WrittenLemmas.{next_in}
use Rattle.file_renumber.proofs.insns.mark_insns.Goals as goal
use Rattle.dex_base.proofs.ListFacts.{rest_is}

pub loop-at-init : goal.loop-at-init
loop-at-init c = record { marked = λ rs is s. marked_start c.args.sections.now c.args.marks.now c.args.units.now is; inside = omega arith }

pub shape_at-shape-requires : goal.shape_at-shape-requires
shape_at-shape-requires c =
    let x = c.requires.insns in
    let m = c.loop-at.invariant.marked x.0 x.1 x.2 in
    let n = next_in c.args.units.now _ m.before x.0 c.loop-at.at (rest_is (2 * c.loop-at.at) c.args.units.now) m.run x.2.walk c.loop-at-test.true in
    (n.one, n.front)

pub mark_insn-requires-clause-marks : goal.mark_insn-requires-clause-marks
mark_insn-requires-clause-marks c =
    let x = c.requires.insns in
    let m = c.loop-at.invariant.marked x.0 x.1 x.2 in
    has_marks_after c.args.sections.now c.args.marks.now c.loop-at.marks (flat_map names_of_insn (take (length m.before) x.1)) c.requires.marks m.marked

pub mark_insn-requires-clause-resolves : goal.mark_insn-requires-clause-resolves
mark_insn-requires-clause-resolves c =
    let x = c.requires.insns in
    let m = c.loop-at.invariant.marked x.0 x.1 x.2 in
    let n = next_in c.args.units.now _ m.before x.0 c.loop-at.at (rest_is (2 * c.loop-at.at) c.args.units.now) m.run x.2.walk c.loop-at-test.true in
    let s = says_next c.args.sections.now c.args.units.now m.before x.0 x.1 c.loop-at.at n.one m.run x.2 c.loop-at-test.true n.stands in
    (s.to, n.one, _, record { spelled = n.front; shaped = c.shape_at-shape.ensures n.one n.front }, s.resolves)

pub size_at-requires : goal.size_at-requires
size_at-requires c =
    let x = c.requires.insns in
    let m = c.loop-at.invariant.marked x.0 x.1 x.2 in
    let n = next_in c.args.units.now _ m.before x.0 c.loop-at.at (rest_is (2 * c.loop-at.at) c.args.units.now) m.run x.2.walk c.loop-at-test.true in
    (n.one, record { spelled = n.front; shaped = c.shape_at-shape.ensures n.one n.front })

pub overflow_add-at : goal.overflow_add-at
overflow_add-at c =
    let x = c.requires.insns in
    let m = c.loop-at.invariant.marked x.0 x.1 x.2 in
    let n = next_in c.args.units.now _ m.before x.0 c.loop-at.at (rest_is (2 * c.loop-at.at) c.args.units.now) m.run x.2.walk c.loop-at-test.true in
    let there = n.there in
    let size = c.size_at.ensures n.one (record { spelled = n.front; shaped = c.shape_at-shape.ensures n.one n.front }) in
    let short = c.requires.short in
    omega (arith, there, size, short)

pub loop-at-smaller : goal.loop-at-smaller
loop-at-smaller c =
    let x = c.requires.insns in
    let m = c.loop-at.invariant.marked x.0 x.1 x.2 in
    let n = next_in c.args.units.now _ m.before x.0 c.loop-at.at (rest_is (2 * c.loop-at.at) c.args.units.now) m.run x.2.walk c.loop-at-test.true in
    let some = n.some in
    let size = c.size_at.ensures n.one (record { spelled = n.front; shaped = c.shape_at-shape.ensures n.one n.front }) in
    let test = c.loop-at-test.true in
    omega (arith, some, size, test)

pub loop-at-preserved : goal.loop-at-preserved
loop-at-preserved c =
    let x = c.requires.insns in
    let m0 = c.loop-at.invariant.marked x.0 x.1 x.2 in
    let n = next_in c.args.units.now _ m0.before x.0 c.loop-at.at (rest_is (2 * c.loop-at.at) c.args.units.now) m0.run x.2.walk c.loop-at-test.true in
    let there = n.there in
    let size = c.size_at.ensures n.one (record { spelled = n.front; shaped = c.shape_at-shape.ensures n.one n.front }) in
    record {
      marked = λ rs is s.
          let m = c.loop-at.invariant.marked rs is s in
          let t = says_next c.args.sections.now c.args.units.now m.before rs is c.loop-at.at n.one m.run s c.loop-at-test.true n.stands in
          subst (λ (k : ℕ). MarkedTo c.args.sections.now c.args.marks.now c.mark_insn.new.marks c.args.units.now (c.loop-at.at + k) is) (sym size)
          (marked_more c.args.sections.now c.args.marks.now c.loop-at.marks c.mark_insn.new.marks c.args.units.now c.loop-at.at n.one is m t.inside n.stands
          (c.in_ok-mark_insn.ensures.marked t.to n.one _ (record { spelled = n.front; shaped = c.shape_at-shape.ensures n.one n.front }) t.resolves));
      inside = omega (arith, there, size);
    }

pub returns-clause-marked : goal.returns-clause-marked
returns-clause-marked c = λ rs is s.
    let i = c.loop-at.invariant.inside in
    let t = c.loop-at-test.false in
    let e : c.loop-at.at ≡ length c.args.units.now / 2 = omega arith in
    marked_end c.args.sections.now c.args.marks.now c.loop-at.marks c.args.units.now c.loop-at.at rs is e s (c.loop-at.invariant.marked rs is s)
