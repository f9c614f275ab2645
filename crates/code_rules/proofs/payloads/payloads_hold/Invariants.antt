use Rattle.std.proofs.Common.{ℕ, ◌<◌, map}
use Rattle.program_types.specs.View.{insn}
use Rattle.program_types.specs.Formed.{PayloadHolds}
use Rattle.code_rules.proofs.payloads.payloads_hold.Given as goal

abbrev pub invariant-loop-k : goal.invariant-loop-k
invariant-loop-k l = (k : ℕ) → k < l.k → PayloadHolds (map insn l.one.insns.now) k
