use Rattle.std.proofs.Common.{ℕ, ◌<◌, ◌≤◌, map}
use Rattle.program_types.specs.View.{insn}
use Rattle.program_types.specs.Formed.{RefersToPayload}
use Rattle.code_rules.proofs.payloads.user_from.Given as goal

abbrev pub invariant-loop-j : goal.invariant-loop-j
invariant-loop-j l = (i : ℕ) → l.from ≤ i → i < l.j → ¬ RefersToPayload (map insn l.insns) i l.k
