use Rattle.std.proofs.Common.{map}
use Rattle.program_types.specs.View.{insn}
use Rattle.code_rules.specs.inner.Uses.{AreUses}
use Rattle.code_rules.proofs.payloads.mark_users.Given as goal

abbrev pub invariant-loop-j : goal.invariant-loop-j
invariant-loop-j l = AreUses (map insn l.insns) l.j l.all
