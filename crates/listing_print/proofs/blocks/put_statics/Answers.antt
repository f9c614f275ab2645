use Rattle.std.proofs.Common.{map}
use Rattle.program_types.specs.View.{value}
use Rattle.listing_print.proofs.TextLaws.{static_more}
use Rattle.listing_print.proofs.blocks.put_statics.Goals as goal

pub loop-i-preserved : goal.loop-i-preserved
loop-i-preserved c = static_more c.args.out.now.items c.loop-i.out.items c.put_static.new.out.items c.args.fields.now (map value c.args.values.now) c.loop-i.i _ c.loop-i-test.true c.loop-i.invariant c.in_ok-put_static.ensures.ok
