use Rattle.std.proofs.Common.{◌≡◌, ◌-◌, ◌++◌}
use Rattle.code_read.specs.Symbols.{ints, ints_from}
use Rattle.code_read.proofs.targets.read_ints.Given as goal

abbrev pub invariant-loop-i : goal.invariant-loop-i
invariant-loop-i l = l.all.items ++ ints_from l.bytes l.i (l.n - l.i) ≡ ints l.bytes
