use Rattle.std.proofs.Common.{map}
use Rattle.program_types.specs.Formed.{insn_at}
use Rattle.program_types.specs.View.{insn}
use Rattle.code_rules.specs.First.{AllHold}
use Rattle.code_rules.specs.inner.Parts.{HasNoPayload}
use Rattle.code_rules.proofs.payloads.are_plain.Given as goal

abbrev pub invariant-loop-k : goal.invariant-loop-k
invariant-loop-k l = AllHold (λ k. HasNoPayload (insn_at (map insn l.insns) k)) l.k
