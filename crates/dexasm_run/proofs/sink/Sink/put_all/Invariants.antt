use Rattle.std.proofs.Common.{length, take, ◌-◌, ◌≤◌}
use Rattle.std.specs.Io.KnownBytes.{Appends}
use Rattle.dexasm_run.proofs.sink.Sink.put_all.Given as goal

abbrev pub invariant-loop-done : goal.invariant-loop-done
invariant-loop-done g l = (l.done ≤ length l.made)
    × Appends (g.Self.Sink.contents l.initial.self) (g.Self.Sink.contents l.self) (take l.done l.made)

abbrev pub decreases-loop-done : goal.decreases-loop-done
decreases-loop-done g l = length l.made - l.done
