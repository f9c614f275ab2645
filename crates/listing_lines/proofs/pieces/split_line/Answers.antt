use Rattle.std.proofs.Common.{rules}
use Rattle.listing_lines.proofs.SplitLaws.{no_lines, line_found, line_alone}
use Rattle.listing_lines.proofs.pieces.split_line.Goals as goal

pub returns-then-is_empty-clause-none : goal.returns-then-is_empty-clause-none
returns-then-is_empty-clause-none c = no_lines c.args.text.now (search rules)

pub returns-clause-found : goal.returns-clause-found
returns-clause-found c =
    let cut = c.split_before.ensures in
    line_found c.args.text.now c.split_before.result.0.now c.split_before.result.1.now c.split_at.result.1.now
    cut.joined cut.before cut.stops (search rules) (search rules)

pub returns-then-is_empty-2-clause-found : goal.returns-then-is_empty-2-clause-found
returns-then-is_empty-2-clause-found c =
    let cut = c.split_before.ensures in
    line_alone c.args.text.now c.split_before.result.0.now c.split_before.result.1.now cut.joined cut.before (search rules) (search rules)
