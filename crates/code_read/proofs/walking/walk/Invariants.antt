use Rattle.std.proofs.Common.{◌≡◌, ◌*◌, ◌-◌, ◌≤◌, length, map}
use Rattle.dex_insn.specs.Raw.{raw}
use Rattle.code_read.specs.Walk.{Run, starts}
use Rattle.code_read.proofs.walking.walk.Given as goal

abbrev pub invariant-loop-at : goal.invariant-loop-at
invariant-loop-at l = record {
  run : Run l.units 0 (map raw l.insns.items) l.at;
  begins : l.starts.items ≡ starts (map raw l.insns.items);
  inside : 2 * l.at ≤ length l.units;
}

abbrev pub decreases-loop-at : goal.decreases-loop-at
decreases-loop-at l = l.end - l.at
