use Rattle.std.proofs.Common.{◌≡◌, ◌<◌, ℕ, true}
use Rattle.dexasm_world.specs.State.{Passes}
use Rattle.dexasm_world.specs.inner.Steps.{Same}
use Rattle.dexasm_world.specs.Safe.{part_path, IsTaken, IsSafe}
use Rattle.dexasm_world.proofs.delivery.deliver_beside.Given as goal

abbrev pub invariant-loop-number : goal.invariant-loop-number
invariant-loop-number g l =
    let known = g.W.World.is_known ≡ true in
    let files = g.W.World.files in
    record {
      moments : known → Passes (files l.fn.world) (files l.world) (IsSafe (files l.fn.world) l.path l.answer);
      taken : known → (m : ℕ) → m < l.number → IsTaken (files l.fn.world) (part_path l.path m);
      same : known → Same (files l.fn.world).now (files l.world).now;
    }
