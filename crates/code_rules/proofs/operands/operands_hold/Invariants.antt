use Rattle.std.proofs.Common.{ℕ, ◌<◌, map}
use Rattle.program_types.specs.View.{insn}
use Rattle.program_types.specs.Formed.{insn_at}
use Rattle.code_rules.specs.CodeRules.{FitsFields}
use Rattle.code_rules.proofs.operands.operands_hold.Given as goal

abbrev pub invariant-loop-k : goal.invariant-loop-k
invariant-loop-k l = (k : ℕ) → k < l.k → FitsFields (insn_at (map insn l.one.insns.now) k)
