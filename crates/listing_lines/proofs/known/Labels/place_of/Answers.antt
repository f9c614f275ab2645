use Rattle.std.proofs.Common.{map}
use Rattle.listing_lines.specs.inner.View.{label}
use Rattle.listing_lines.proofs.OrderLaws.{in_front, in_rest}
use Rattle.listing_lines.proofs.known.Labels.place_of.Goals as goal

pub returns-in-Some : goal.returns-in-Some
returns-in-Some c =
    rw (← c.self.view_is) (in_front (map label c.self.inside.front.items) (map label c.self.inside.rest.entries) c.args.name.now c.in-Some.place
    (rw (c.in-Some.is, c.as_slice.ensures.value) at c.find_rising.ensures))

pub returns-in-None : goal.returns-in-None
returns-in-None c =
    rw (← c.self.view_is) (in_rest (map label c.self.inside.front.items) (map label c.self.inside.rest.entries) c.args.name.now c.find_hashed.result
    (rw (c.in-None.is, c.as_slice.ensures.value) at c.find_rising.ensures) c.find_hashed.ensures)
