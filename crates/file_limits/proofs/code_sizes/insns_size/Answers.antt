use Rattle.std.proofs.Common.{◌≡◌, inl, refl, arith, subst}
use Rattle.program_types.specs.Sizes.{insn_units, total}
use Rattle.program_types.specs.View as view
use Rattle.program_types.specs.declared.insn.Insn.{Insn}
use Rattle.file_limits.proofs.SumLaws.{units_more}
use Rattle.file_limits.proofs.code_sizes.insns_size.Goals as goal

pub loop-insn-init : goal.loop-insn-init
unfolding total
loop-insn-init c = inl (omega arith)

pub loop-insn-preserved : goal.loop-insn-preserved
loop-insn-preserved c =
    units_more _ _ _ c.units_of-units.result c.args.insns.now c.loop-insn.insn-index c.insn-item.result c.loop-insn-test.true c.plus-sum.ensures c.loop-insn.invariant (c.plus.ensures _ _ (inl refl) (inl refl))
    (subst (λ (v : Insn). c.units_of-units.result ≡ insn_units (view.insn v)) c.insn-item.is c.units_of-units.ensures)
