use Rattle.dex_base.proofs.LowPoints.{low_points}
use Rattle.dex_base.proofs.simple_name.is_low_point.Goals as goal

pub returns : goal.returns
returns c = low_points c.args.c c.requires
