use Rattle.std.proofs.Common.{length, sym, subst}
use Rattle.std.specs.Prelude.{slice_index}
use Rattle.program_types.specs.Content.{Try}
use Rattle.code_write.proofs.ItemPieces.{seen-at}
use Rattle.program_types.specs.View.{try}
use Rattle.code_align.specs.Aligned.{moved_try}
use Rattle.code_align.specs.inner.Aligning.{IsTryBelow}
use Rattle.code_align.proofs.MoveLaws.{view-more}
use Rattle.code_align.proofs.moving.moved_tries.Goals as goal

pub moved_try-requires : goal.moved_try-requires
moved_try-requires c = subst (λ (t : Try). IsTryBelow (length c.args.numbers.now) t) (sym (seen-at c.args.tries.now c.loop-i.i _ c.loop-i-test.true)) (c.requires.inside c.loop-i.i c.loop-i-test.true)

pub loop-i-preserved : goal.loop-i-preserved
loop-i-preserved c = view-more try (moved_try (slice_index c.args.numbers.now)) c.args.tries.now c.loop-i.all.items c.push.new.self.items c.in_ok-moved_try.field-0 c.loop-i.i _ c.loop-i-test.true c.loop-i.invariant c.in_ok-moved_try.ensures.ok c.in_ok-push.ensures.items
