use Rattle.std.proofs.Common.{map}
use Rattle.program_types.specs.View.{insn}
use Rattle.program_types.specs.Formed.{insn_at, AreAmong}
use Rattle.code_rules.specs.First.{AllHold}
use Rattle.code_rules.proofs.registers.first_past.Given as goal

abbrev pub invariant-loop-k : goal.invariant-loop-k
invariant-loop-k l = AllHold (λ k. AreAmong l.count (insn_at (map insn l.insns) k)) l.k
