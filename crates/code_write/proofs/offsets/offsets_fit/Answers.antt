use Rattle.std.proofs.Common.{rules, below_more}
use Rattle.code_write.proofs.offsets.offsets_fit.Goals as goal

pub loop-k-preserved : goal.loop-k-preserved
loop-k-preserved c = below_more _ _ c.loop-k.invariant (c.insn_fits.ensures.0 (search rules))
