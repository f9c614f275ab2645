use Rattle.tables_names.proofs.noted.Noted.freeze.Goals as goal

pub returns-clause-same : goal.returns-clause-same
returns-clause-same c = rw (← c.self.view_is) c.in_ok-ranked.ensures.same

pub returns-clause-ranks : goal.returns-clause-ranks
returns-clause-ranks c = rw (← c.self.view_is, ← c.deref.ensures.value) c.in_ok-ranked.ensures.ranks
