use Rattle.std.proofs.Common.{◌≡◌, ◌-◌, ◌++◌, map}
use Rattle.code_read.specs.Linked.{target_number}
use Rattle.code_read.specs.Symbols.{ints, ints_from}
use Rattle.code_read.proofs.targets.read_targets.Given as goal

abbrev pub invariant-loop-i : goal.invariant-loop-i
invariant-loop-i l = l.all.items ++ map (target_number l.starts l.base) (ints_from l.offsets l.i (l.n - l.i)) ≡ map (target_number l.starts l.base) (ints l.offsets)
