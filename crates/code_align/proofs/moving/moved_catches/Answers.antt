use Rattle.std.proofs.Common.{◌<◌, length}
use Rattle.std.specs.Prelude.{slice_index}
use Rattle.program_types.specs.View.{catch}
use Rattle.program_types.specs.Content.{Catch}
use Rattle.code_write.proofs.ListLaws.{all-view}
use Rattle.code_align.specs.Aligned.{moved_catch}
use Rattle.code_align.proofs.MoveLaws.{view-more}
use Rattle.code_align.proofs.moving.moved_catches.Goals as goal

pub moved_catch-requires : goal.moved_catch-requires
moved_catch-requires c = all-view (λ (x : Catch). x.at < length c.args.numbers.now) catch c.args.catches.now c.loop-i.i _ c.requires.inside c.loop-i-test.true

pub loop-i-preserved : goal.loop-i-preserved
loop-i-preserved c = view-more catch (moved_catch (slice_index c.args.numbers.now)) c.args.catches.now c.loop-i.all.items c.push.new.self.items c.moved_catch.result c.loop-i.i _ c.loop-i-test.true c.loop-i.invariant c.moved_catch.ensures c.in_ok-push.ensures.items
