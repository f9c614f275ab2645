use Rattle.program_types.specs.View.{value}
use Rattle.dex_value.proofs.keeping.NothingKeep.leaf.Goals as goal

pub returns-clause-ok : goal.returns-clause-ok
returns-clause-ok c = (value c.in_ok-after.field-0-0, c.in_ok-after.ensures.ok, tt)
