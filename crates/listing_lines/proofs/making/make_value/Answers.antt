use Rattle.std.proofs.Common.{◌∙◌, map, arith}
use Rattle.listing_slots.specs.inner.View.{datum}
use Rattle.listing_lines.specs.inner.MakingView.{making}
use Rattle.listing_lines.proofs.MakingLaws.{fold_start, fold_end, none_made, one_made}
use Rattle.listing_lines.proofs.making.make_value.Goals as goal

pub loop-i-init : goal.loop-i-init
unfolding making
loop-i-init c = fold_start (map datum c.args.words.now) c.new.result.items c.new-2.result.items c.new.ensures.items c.new-2.ensures.items

pub returns-then-len-eq0-clause-ok : goal.returns-then-len-eq0-clause-ok
returns-then-len-eq0-clause-ok c = none_made (map datum c.args.words.now) c.loop-i.made (c.loop-i.invariant ∙ fold_end (making c.loop-i.made) c.args.words.now c.loop-i.i (omega arith)) (omega (arith, c.len.ensures, c.loop-i.made.values.ok.0, c.if-len-eq0.true))

pub returns-clause-ok : goal.returns-clause-ok
returns-clause-ok c = one_made (map datum c.args.words.now) c.loop-i.made c.index.result.now (c.loop-i.invariant ∙ fold_end (making c.loop-i.made) c.args.words.now c.loop-i.i (omega arith)) (omega (arith, c.len.ensures, c.loop-i.made.values.ok.0, c.if-len-eq0.false)) c.index.ensures
