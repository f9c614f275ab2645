use Rattle.file_renumber.proofs.ShapeLemmas.{op_is}
use Rattle.file_renumber.proofs.shapes.opcode_at.Goals as goal

pub returns : goal.returns
returns c = op_is c.args.front.now _ c.u16_at.ensures
