use Rattle.tables_names.proofs.ranks.Ranks.holds_parts.Goals as goal

pub returns : goal.returns
returns c = rw (← c.self.view_is) c.self.invariant.closed
