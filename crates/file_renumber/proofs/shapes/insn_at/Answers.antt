use Rattle.file_renumber.proofs.ShapeLemmas.{stands_in_front}
use Rattle.file_renumber.proofs.shapes.insn_at.Goals as goal

pub unreachable-requires : goal.unreachable-requires
unreachable-requires c = c.in-Err.ensures.only c.requires.0 (stands_in_front c.args.front.now c.requires.0 c.requires.1)
