use Rattle.std.proofs.Common.{◌*◌, map, take}
use Rattle.program_types.specs.Sizes.{length_of}
use Rattle.program_types.specs.View as view
use Rattle.file_limits.specs.inner.Sum.{IsSum}
use Rattle.file_limits.proofs.code_sizes.insns_size.Given as goal

abbrev pub invariant-loop-insn : goal.invariant-loop-insn
invariant-loop-insn l = IsSum l.sum (2 * length_of (map view.insn (take l.insn-index l.insns)))
