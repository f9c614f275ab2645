use Rattle.std.proofs.Common.{Some, sym, ap}
use Rattle.listing_parse.specs.States.{Open, in_class, at_members}
use Rattle.listing_parse.specs.inner.View.{block, open_body}
use Rattle.listing_parse.proofs.block.Block.alloc_code.Goals as goal

pub returns-in_ok-place-in-Code-clause-placed : goal.returns-in_ok-place-in-Code-clause-placed
unfolding block open_body
returns-in_ok-place-in-Code-clause-placed c =
    rw c.in-Code.is (ap (λ (o : Open). Some (in_class o at_members)) (sym c.in_ok-place-in-Code.ensures.placed))
