use Rattle.std.proofs.lemmas.Option.{IfSome_then}
use Rattle.dex_base.proofs.OptionLaws.{IfNone-weaker}
use Rattle.dex_base.proofs.NameLaws.{point_found, point_some, point_none}
use Rattle.dex_base.proofs.simple_name.read_point.Goals as goal

pub returns-clause-found : goal.returns-clause-found
returns-clause-found c = IfSome_then c.point_at.result c.point_at.ensures.found (λ f h. point_found c.args.units.now f.0 f.1 h)

pub returns-clause-some : goal.returns-clause-some
returns-clause-some c = IfSome_then c.point_at.result c.point_at.ensures.found (λ f h. point_some c.args.units.now f.0 f.1 h)

pub returns-clause-none : goal.returns-clause-none
returns-clause-none c = IfNone-weaker c.point_at.result (point_none c.args.units.now) c.point_at.ensures.none
