use Rattle.std.proofs.Common.{sym}
use Rattle.std.proofs.lemmas.List.{append-nil}
use Rattle.listing_slots.proofs.ShapeLaws.{pairs_none, pairs_put}
use Rattle.listing_slots.proofs.shape.push_pairs.Goals as goal

pub loop-turn-init : goal.loop-turn-init
loop-turn-init c = rw pairs_none (sym (append-nil c.args.slots.now.items))

pub loop-turn-preserved : goal.loop-turn-preserved
loop-turn-preserved c = pairs_put c.args.slots.now.items c.loop-turn.slots.items c.push.new.self.items _ c.loop-turn._turn c.loop-turn.invariant c.in_ok-push.ensures.items c.in_ok-push-2.ensures.items
