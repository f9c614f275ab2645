use Rattle.std.proofs.Common.{◌-◌, ◌^◌, vec_len}
use Rattle.std.specs.Io.KnownBytes.{Consumes}
use Rattle.dexasm_run.proofs.running.gather.Given as goal

-- what was gathered is what the source gave, and what it says of a failure it would have said before
abbrev pub invariant-loop-n : goal.invariant-loop-n
invariant-loop-n g l = record {
  gave : Consumes (g.R.Source.remaining l.initial.input) (g.R.Source.remaining l.input) l.given.items;
  blames : (later : _) → g.R.Source.blames l.input later → g.R.Source.blames l.initial.input later;
}

-- a vector has room for 2 ^ 63 - 1 bytes at most
abbrev pub decreases-loop-n : goal.decreases-loop-n
decreases-loop-n g l = 2 ^ 64 - vec_len l.given
