use Rattle.code_align.proofs.OneAligned.{program_aligned_one}
use Rattle.code_align.proofs.program_laws.aligned_program_is_one.Goals as goal

pub returns : goal.returns
returns c = program_aligned_one
