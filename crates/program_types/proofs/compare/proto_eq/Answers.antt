use Rattle.program_types.proofs.Comparisons.{proto_same}
use Rattle.program_types.proofs.compare.proto_eq.Goals as goal

pub returns : goal.returns
returns c = rw c.eq.ensures (proto_same c.args.prototype.now c.args.other.now)
