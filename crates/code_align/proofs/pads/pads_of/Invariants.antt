use Rattle.std.proofs.Common.{◌≤◌, ◌≡◌, ◌*◌, ◌++◌, map, drop}
use Rattle.program_types.specs.View.{insn}
use Rattle.code_align.specs.inner.Aligning.{pads_from}
use Rattle.code_align.proofs.pads.pads_of.Given as goal

abbrev pub invariant-loop-k : goal.invariant-loop-k
invariant-loop-k l = (l.pads.items ++ pads_from l.at (drop l.k (map insn l.insns)) ≡ pads_from 0 (map insn l.insns)) × (l.at ≤ 4294967297 * l.k)
