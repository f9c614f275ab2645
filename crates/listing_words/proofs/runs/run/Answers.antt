use Rattle.std.proofs.Common.{arith}
use Rattle.listing_words.proofs.RunLaws.{run_front, run_more}
use Rattle.listing_words.proofs.runs.run.Goals as goal

pub returns-then-here-lt-LANES : goal.returns-then-here-lt-LANES
returns-then-here-lt-LANES c =
    run_front _ _ c.args.text.now _ _ _ _ c.loop-at.invariant (omega arith) (omega arith) (λ e. omega arith) c.run_among-here.ensures

pub loop-at-preserved : goal.loop-at-preserved
loop-at-preserved c = run_more _ _ c.args.text.now _ _ _ c.loop-at.invariant (omega arith) c.run_among-here.ensures

pub returns : goal.returns
returns c = run_front _ _ c.args.text.now _ _ _ _ c.loop-at.invariant (omega arith) (omega arith) (λ e. omega arith) c.run_among.ensures
