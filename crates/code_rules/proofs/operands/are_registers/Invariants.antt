use Rattle.std.proofs.Common.{ℕ, ◌<◌, ◌≤◌, ◌≡◌}
use Rattle.std.specs.Prelude.{slice_index}
use Rattle.code_rules.proofs.operands.are_registers.Given as goal

abbrev pub invariant-loop-k : goal.invariant-loop-k
invariant-loop-k l = record {
  fit : (k : ℕ) → k < l.k → k < l.n → slice_index l.regs k < 16;
  unused : (k : ℕ) → k < l.k → l.n ≤ k → slice_index l.regs k ≡ 0;
}
