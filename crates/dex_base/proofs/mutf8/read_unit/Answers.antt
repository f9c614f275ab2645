use Rattle.std.proofs.lemmas.Option.{IfSome_then}
use Rattle.dex_base.proofs.OptionLaws.{IfNone-weaker}
use Rattle.dex_base.proofs.UnitLaws.{unit_found, unit_none}
use Rattle.dex_base.proofs.mutf8.read_unit.Goals as goal

pub returns-clause-found : goal.returns-clause-found
returns-clause-found c = IfSome_then c.unit_at.result c.unit_at.ensures.found (λ f h. unit_found c.args.bytes.now f.0 f.1 h)

pub returns-clause-none : goal.returns-clause-none
returns-clause-none c = IfNone-weaker c.unit_at.result (unit_none c.args.bytes.now) c.unit_at.ensures.none
