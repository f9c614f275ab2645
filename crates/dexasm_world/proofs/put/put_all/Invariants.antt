use Rattle.std.proofs.Common.{length, take, ◌-◌, ◌≡◌, ◌≤◌, true}
use Rattle.dexasm_world.specs.State.{Passes}
use Rattle.dexasm_world.specs.inner.Steps.{Wrote}
use Rattle.dexasm_world.proofs.Stepping.{IsFront}
use Rattle.dexasm_world.proofs.put.put_all.Given as goal

abbrev pub invariant-loop-done : goal.invariant-loop-done
invariant-loop-done g l =
    let known = g.W.World.is_known ≡ true in
    let files = g.W.World.files in
    let number = g.W.File.Handle.number in
    record {
      within : l.done ≤ length l.bytes;
      same : known → number l.file ≡ number l.fn.file;
      moments : known → Passes (files l.fn.world) (files l.world) (IsFront (files l.fn.world) (number l.fn.file) l.bytes);
      wrote : known → Wrote (number l.fn.file) (take l.done l.bytes) (files l.fn.world).now (files l.world).now;
    }

abbrev pub decreases-loop-done : goal.decreases-loop-done
decreases-loop-done g l = length l.bytes - l.done
