use Rattle.std.proofs.Common.{refl}
use Rattle.listing_parse.specs.States.{inside}
use Rattle.listing_parse.specs.inner.View.{block}
use Rattle.listing_parse.proofs.block.Block.add_insn.Goals as goal

pub returns-in_ok-add_insn-in-Code-clause-added : goal.returns-in_ok-add_insn-in-Code-clause-added
unfolding block inside
returns-in_ok-add_insn-in-Code-clause-added c =
    rw (c.in-Code.is, c.in_ok-add_insn-in-Code.ensures.body, c.in_ok-add_insn-in-Code.ensures.part, c.in_ok-add_insn-in-Code.ensures.class) refl
