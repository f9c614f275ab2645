use Rattle.std.proofs.Common.{lit≤}
use Rattle.dex_value.proofs.Narrow.{width_more}
use Rattle.dex_value.proofs.widths.unsigned_width.Goals as goal

pub returns-then-n-3 : goal.returns-then-n-3
returns-then-n-3 c = width_more c.args.n 2 (lit≤ tt) c.if-n-2.false c.if-n-3.true

pub returns-then-n-4 : goal.returns-then-n-4
returns-then-n-4 c = width_more c.args.n 3 (lit≤ tt) c.if-n-3.false c.if-n-4.true

pub returns-then-n-5 : goal.returns-then-n-5
returns-then-n-5 c = width_more c.args.n 4 (lit≤ tt) c.if-n-4.false c.if-n-5.true

pub returns-then-n-6 : goal.returns-then-n-6
returns-then-n-6 c = width_more c.args.n 5 (lit≤ tt) c.if-n-5.false c.if-n-6.true

pub returns-then-n-7 : goal.returns-then-n-7
returns-then-n-7 c = width_more c.args.n 6 (lit≤ tt) c.if-n-6.false c.if-n-7.true

pub returns-else-n-7 : goal.returns-else-n-7
returns-else-n-7 c = width_more c.args.n 7 (lit≤ tt) c.if-n-7.false (c.ranges.n).fits
