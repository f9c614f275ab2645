use Rattle.std.proofs.Common.{ap, ◌∙◌}
use Rattle.tables_names.specs.Numbers.{sets}
use Rattle.tables_names.proofs.needed.Needed.noting.Goals as goal

pub returns-clause-names : goal.returns-clause-names
returns-clause-names c = ap sets c.new.ensures.names ∙ c.self.view_is
