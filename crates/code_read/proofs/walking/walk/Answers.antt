use Rattle.std.proofs.Common.{length, map, arith, ◌/◌, ◌≡◌, subst, ℕ}
use Rattle.dex_insn.specs.Raw.{raw}
use Rattle.code_read.specs.Walk.{Run}
use Rattle.code_read.proofs.Runs.{run-turn, starts-turn, there, table-of}
use Rattle.code_read.proofs.walking.walk.Goals as goal

pub overflow_add-at : goal.overflow_add-at
overflow_add-at c = let t = there c.args.units.now c.loop-at.at c.in-Ok.insn c.in-Ok.ensures.ok in let l = t.1 in omega (arith, c.size_of-at.ensures)

pub loop-at-smaller : goal.loop-at-smaller
loop-at-smaller c = let t = there c.args.units.now c.loop-at.at c.in-Ok.insn c.in-Ok.ensures.ok in let l = t.1 in let k = t.0 in omega (arith, c.size_of-at.ensures)

pub loop-at-preserved : goal.loop-at-preserved
loop-at-preserved c =
    let t = there c.args.units.now c.loop-at.at c.in-Ok.insn c.in-Ok.ensures.ok in let l = t.1 in
    record {
      run = rw (c.in_ok-push-in-Ok.ensures.items, c.size_of-at.ensures) (run-turn c.args.units.now c.loop-at.insns.items c.loop-at.at c.in-Ok.insn c.loop-at.invariant.run c.in-Ok.ensures.ok);
      begins = rw (c.in_ok-push-in-Ok-2.ensures.items, c.in_ok-push-in-Ok.ensures.items) (starts-turn c.args.units.now c.loop-at.insns.items c.loop-at.starts.items c.loop-at.at c.in-Ok.insn c.loop-at.invariant.run c.loop-at.invariant.begins);
      inside = omega (arith, c.size_of-at.ensures);
    }

pub returns-clause-table : goal.returns-clause-table
returns-clause-table c =
    let i = c.loop-at.invariant.inside in
    let e : c.loop-at.at ≡ length c.args.units.now / 2 = omega arith in
    table-of c.args.units.now _ _ c.requires.short (subst (λ (z : ℕ). Run c.args.units.now 0 (map raw c.loop-at.insns.items) z) e c.loop-at.invariant.run) c.loop-at.invariant.begins
