use Rattle.tables_names.proofs.NeededLemmas as law
use Rattle.tables_names.proofs.laws.needed_is_least.Goals as goal

pub returns-clause-least : goal.returns-clause-least
returns-clause-least c = law.needed_is_least

pub returns-clause-only : goal.returns-clause-only
returns-clause-only c = law.least_is_needed
