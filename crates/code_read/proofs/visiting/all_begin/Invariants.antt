use Rattle.std.proofs.Common.{◌≢◌, ◌<◌, ℕ, get_or}
use Rattle.std.specs.Prelude.{IsTrue}
use Rattle.code_read.proofs.visiting.all_begin.Given as goal

abbrev pub invariant-loop-mark : goal.invariant-loop-mark
invariant-loop-mark l = IsTrue l.all → (unit : ℕ) → unit < l.mark-index → get_or l.marks unit 0 ≢ 2
