use Rattle.std.proofs.Common.{ℕ, List, Option, take, drop}
use Rattle.program_types.specs.Content.{Code}
use Rattle.tables_names.specs.Closure.{Five, NameRanks}
use Rattle.file_limits.specs.Wide.{wide_body}
use Rattle.file_put.specs.inner.Codes.{PacksBody, WritesBody, is_bodiless}
use Rattle.file_layout.specs.inner.Sharing.{Sharing}
use Rattle.file_strip.specs.inner.Bodies.{AreNear, AreOwned, WritesCarried, bodies_alone}
use Rattle.file_strip.specs.inner.Moved.{AreMoved}
use Rattle.file_strip.proofs.codes.place_bodies.Given as goal

abbrev pub invariant-loop-body : goal.invariant-loop-body
invariant-loop-body l =
    ((s : Five) (xs : List (ℕ × Option Code)) → AreOwned l.sections l.numbers s l.bodies xs
    → Sharing is_bodiless (PacksBody (NameRanks s)) (WritesBody s) 4 wide_body l.fn.out.items l.out.items (take l.body-index (bodies_alone xs)) (drop l.body-index (bodies_alone xs)) (bodies_alone xs) l.places.items l.moved.items
    × AreNear s (take l.body-index xs))
    × AreMoved (WritesCarried l.sections l.numbers) l.moved.items l.moved.places
