use Rattle.std.proofs.Common.{◌≤◌, ◌≡◌, ◌+◌, ◌*◌, map, length, take}
use Rattle.program_types.specs.View.{try}
use Rattle.code_write.specs.Fits.{catches_in}
use Rattle.code_write.proofs.tries.is_short.Given as goal

abbrev pub invariant-loop-i : goal.invariant-loop-i
invariant-loop-i l = (l.sum ≡ 26 + 2 * l.size + 18 * length l.tries + 10 * catches_in (take l.i (map try l.tries))) × (l.sum ≤ 8589934616 + 18 * length l.tries + 42949672960 * l.i)
