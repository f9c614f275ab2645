use Rattle.tables_names.proofs.NumberLemmas.{sets_rise}
use Rattle.tables_names.proofs.needed.Needed.holds_parts.Goals as goal

pub returns-clause-closed : goal.returns-clause-closed
returns-clause-closed c = rw (← c.self.view_is) c.has_parts.ensures.closed

pub returns-clause-rise : goal.returns-clause-rise
returns-clause-rise c = rw (← c.self.view_is) (sets_rise c.self.inside.numbered.names)
