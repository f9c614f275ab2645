use Rattle.std.proofs.Common.{◌≡◌, ◌++◌, map, take}
use Rattle.file_strip.specs.inner.Bodies.{body_of}
use Rattle.file_strip.proofs.codes.push_bodies.Given as goal

abbrev pub invariant-loop-entry : goal.invariant-loop-entry
invariant-loop-entry l = l.bodies.items ≡ l.fn.bodies.items ++ map (body_of l.class) (take l.entry-index l.entries)
