use Rattle.std.proofs.Common.{arith, ap, ◌∙◌, map}
use Rattle.program_types.specs.View.{value}
use Rattle.listing_parse.proofs.CloseLaws.{values_push}
use Rattle.listing_parse.proofs.close.alloc_values.Goals as goal

pub loop-i-preserved : goal.loop-i-preserved
loop-i-preserved c = ap (map value) c.in_ok-push.ensures.items ∙ values_push c.args.all.now c.loop-i.values.items c.value_or_zero.result c.loop-i.i _ (omega (arith, c.given_length-n.ensures.within)) c.loop-i.invariant c.value_or_zero.ensures
