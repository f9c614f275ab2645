use Rattle.std.proofs.Common.{arith, ap, ◌∙◌, map}
use Rattle.program_types.specs.View.{member}
use Rattle.listing_parse.proofs.CloseLaws.{fields_placed}
use Rattle.listing_parse.proofs.close.alloc_fields.Goals as goal

pub returns-clause-ok : goal.returns-clause-ok
returns-clause-ok c = ap (map member) c.into_bump_slice.ensures ∙ fields_placed c.args.all.now c.loop-i.fields.items c.loop-i.i (omega arith) c.loop-i.invariant
