use Rattle.std.proofs.Common.{arith, refl}
use Rattle.dex_base.specs.Words.{words_bytes}
use Rattle.file_layout.proofs.FinishLaws.{put_step, put_end}
use Rattle.file_layout.proofs.finishing.put_words.Goals as goal

pub loop-i-init : goal.loop-i-init
unfolding words_bytes
loop-i-init c = refl

pub loop-i-preserved : goal.loop-i-preserved
loop-i-preserved c = put_step _ _ _ _ _ c.loop-i-test.true c.requires c.loop-i.invariant c.put_u32_at.ensures

pub returns : goal.returns
returns c = put_end _ _ _ c.loop-i.i c.loop-i-test.false (omega arith) c.loop-i.invariant
