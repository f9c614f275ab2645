use Rattle.std.proofs.Common.{rules, map, below_more}
use Rattle.program_types.specs.View.{insn}
use Rattle.code_rules.proofs.UseLaws.{plain_holds}
use Rattle.code_rules.proofs.payloads.first_bad_use.Goals as goal

pub returns-then-are_plain-clause-none : goal.returns-then-are_plain-clause-none
returns-then-are_plain-clause-none c = λ k lt. plain_holds (map insn c.args.insns.now) k (c.are_plain.ensures.0 (search rules) k lt)

pub loop-k-preserved : goal.loop-k-preserved
loop-k-preserved c = below_more _ _ c.loop-k.invariant (c.payload_holds_by.ensures.0 (search rules))
