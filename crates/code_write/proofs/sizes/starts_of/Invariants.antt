use Rattle.std.proofs.Common.{◌≡◌, ◌≤◌, ◌*◌, ◌+◌, map, drop, ◌++◌}
use Rattle.program_types.specs.View.{insn}
use Rattle.program_types.specs.Sizes.{starts_from, insn_units, total}
use Rattle.code_write.proofs.sizes.starts_of.Given as goal

abbrev pub invariant-loop-k : goal.invariant-loop-k
invariant-loop-k l = record {
  so_far : l.starts.items ++ starts_from l.at (drop l.k (map insn_units (map insn l.insns))) ≡ starts_from 0 (map insn_units (map insn l.insns));
  sum : l.at + total (drop l.k (map insn_units (map insn l.insns))) ≡ total (map insn_units (map insn l.insns));
  bound : l.at ≤ 4294967296 * l.k;
}
