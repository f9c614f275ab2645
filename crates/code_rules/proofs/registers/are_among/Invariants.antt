use Rattle.std.proofs.Common.{◌↔◌, drop, ◌<◌}
use Rattle.std.specs.List.{AllByRecursion}
use Rattle.code_rules.proofs.registers.are_among.Given as goal

abbrev pub invariant-loop-v : goal.invariant-loop-v
invariant-loop-v l = AllByRecursion (λ v. v < l.count) l.regs ↔ AllByRecursion (λ v. v < l.count) (drop l.v-index l.regs)
