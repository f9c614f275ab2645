use Rattle.program_types.proofs.Comparisons.{method_ref_same}
use Rattle.program_types.proofs.compare.method_ref_eq.Goals as goal

pub returns : goal.returns
returns c = rw c.eq.ensures (method_ref_same c.args.method.now c.args.other.now)
