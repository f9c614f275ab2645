use Rattle.std.proofs.Common.{arith}
use Rattle.listing_words.proofs.RunLaws.{run_marked}
use Rattle.listing_words.proofs.runs.run_among.Goals as goal

pub returns : goal.returns
returns c = run_marked _ _ _ c.args.text.now c.args.at _ c.requires c.first_mark.ensures (λ x. omega arith)
