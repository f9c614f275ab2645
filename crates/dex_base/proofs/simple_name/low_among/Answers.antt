use Rattle.std.proofs.Common.{refl}
use Rattle.dex_base.proofs.LowRows.{low_none, low_some}
use Rattle.dex_base.proofs.simple_name.low_among.Goals as goal

pub returns-then-marks-eq0-clause-low : goal.returns-then-marks-eq0-clause-low
returns-then-marks-eq0-clause-low c = low_none c.args.units.now c.args.at c.requires c.type_inv.units c.if-marks-eq0.true

pub returns-clause-few : goal.returns-clause-few
returns-clause-few c = (low_some c.args.units.now c.args.at c.requires c.type_inv.units _ c.if-marks-eq0.false refl).0

pub returns-clause-low : goal.returns-clause-low
returns-clause-low c = (low_some c.args.units.now c.args.at c.requires c.type_inv.units _ c.if-marks-eq0.false refl).1
