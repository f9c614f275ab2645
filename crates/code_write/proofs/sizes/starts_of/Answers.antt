use Rattle.std.proofs.Common.{◌<◌, ◌≤◌, arith, map, length, ◌∙◌}
use Rattle.std.proofs.lemmas.List.{length-map}
use Rattle.program_types.specs.View.{insn}
use Rattle.program_types.specs.Sizes.{insn_units}
use Rattle.code_write.proofs.SizeLaws.{starts-turn, sum-turn, starts-end, sum-end, insn-at, size-at, units-small}
use Rattle.code_write.proofs.sizes.starts_of.Goals as goal

pub overflow_add-at : goal.overflow_add-at
overflow_add-at c =
    let i = insn-at c.args.insns.now c.loop-k.k c.index-insns-k.result c.loop-k-test.true c.index-insns-k.is in
    let u : insn_units (insn c.index-insns-k.result) ≤ 4294967296 = units-small (length c.args.insns.now) (insn c.index-insns-k.result) (rw i (c.requires.operands c.loop-k.k c.loop-k-test.true)) in
    let b = c.loop-k.invariant.bound in
    omega (arith, c.units_of-at.ensures)

pub loop-k-preserved : goal.loop-k-preserved
loop-k-preserved c =
    let i = insn-at c.args.insns.now c.loop-k.k c.index-insns-k.result c.loop-k-test.true c.index-insns-k.is in
    let u : insn_units (insn c.index-insns-k.result) ≤ 4294967296 = units-small (length c.args.insns.now) (insn c.index-insns-k.result) (rw i (c.requires.operands c.loop-k.k c.loop-k-test.true)) in
    let s = size-at c.args.insns.now c.loop-k.k c.index-insns-k.result c.loop-k-test.true c.index-insns-k.is in
    let n = c.units_of-at.ensures ∙ s in
    let m = length-map c.args.insns.now insn in
    let o = length-map (map insn c.args.insns.now) insn_units in
    let b = c.loop-k.invariant.bound in
    let l : c.loop-k.k < length (map insn_units (map insn c.args.insns.now)) = omega arith in
    record {
      so_far = rw c.in_ok-push.ensures.items (starts-turn _ _ _ _ c.loop-k.k _ l n c.loop-k.invariant.so_far);
      sum = sum-turn _ _ c.loop-k.k _ _ l n c.loop-k.invariant.sum;
      bound = omega (arith, c.units_of-at.ensures);
    }

pub returns-clause-ok : goal.returns-clause-ok
returns-clause-ok c =
    let m = length-map c.args.insns.now insn in
    let o = length-map (map insn c.args.insns.now) insn_units in
    let l : length (map insn_units (map insn c.args.insns.now)) ≤ c.loop-k.k = omega arith in
    starts-end _ _ _ _ c.loop-k.k l c.loop-k.invariant.so_far

pub returns-clause-end : goal.returns-clause-end
returns-clause-end c =
    let m = length-map c.args.insns.now insn in
    let o = length-map (map insn c.args.insns.now) insn_units in
    let l : length (map insn_units (map insn c.args.insns.now)) ≤ c.loop-k.k = omega arith in
    sum-end _ _ c.loop-k.k _ l c.loop-k.invariant.sum
