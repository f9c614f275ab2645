use Rattle.std.proofs.Common.{◌∙◌, sym, arith, ◌-◌, rules, map, drop}
use Rattle.listing_words.specs.inner.View.{word}
use Rattle.listing_slots.proofs.FormLaws.{close_none, close_end, close_here, close_more}
use Rattle.listing_slots.proofs.forms.before_close.Goals as goal

pub returns-then-n-words : goal.returns-then-n-words
returns-then-n-words c = let z = close_end (5 - c.loop-n.n) c.loop-n.n c.args.words.now (omega arith) in omega (arith, c.loop-n.invariant.same, z)

pub returns-then-is_key : goal.returns-then-is_key
returns-then-is_key c = let z = close_here (5 - c.loop-n.n) c.loop-n.n c.args.words.now _ (omega (arith, c.loop-n.invariant.inside)) (sym c.is_key.ensures ∙ search rules) in omega (arith, c.loop-n.invariant.same, z)

pub loop-n-preserved : goal.loop-n-preserved
loop-n-preserved c = record {
  same = c.loop-n.invariant.same ∙ close_more c.loop-n.n c.args.words.now _ (omega (arith, c.loop-n.invariant.inside)) c.loop-n-test.true (sym c.is_key.ensures ∙ search rules);
  few = omega arith;
  inside = omega (arith, c.loop-n.invariant.inside);
}

pub returns : goal.returns
returns c = let z = close_none c.loop-n.n (map word (drop c.loop-n.n c.args.words.now)) c.loop-n-test.false in omega (arith, c.loop-n.invariant.same, z)
