use Rattle.std.proofs.Common.{None, sym, true≢false}
use Rattle.tables_names.proofs.NameSetLemmas.{index_fits}
use Rattle.tables_names.proofs.PlaceLemmas.{member_at, rank_at, some_of, none_of}
use Rattle.tables_names.proofs.name_set.Ranked.index_of.Goals as goal

pub returns-in-Some-clause-rank : goal.returns-in-Some-clause-rank
returns-in-Some-clause-rank g c =
    let at = c.in-Some.ensures.some in
    let held = member_at c.args.self.now c.in-Some.rank (g.N.Row.key c.args.name) at in
    let is = rank_at c.args.self.now c.in-Some.rank (g.N.Row.key c.args.name) c.rises.ensures at in
    rw (held, is, c.ok.ensures.value) (index_fits c.try_from.result _ c.in-Some.rank c.try_from.ensures)

pub returns-in-Some-clause-some : goal.returns-in-Some-clause-some
returns-in-Some-clause-some g c = some_of c.args.self.now (g.N.Row.key c.args.name) c.ok.result c.rises.ensures (returns-in-Some-clause-rank g c)

pub returns-in-Some-clause-none : goal.returns-in-Some-clause-none
returns-in-Some-clause-none g c = none_of c.args.self.now (g.N.Row.key c.args.name) c.ok.result c.rises.ensures (returns-in-Some-clause-rank g c)

pub returns-in-None-clause-rank : goal.returns-in-None-clause-rank
returns-in-None-clause-rank g c = rw c.in-None.ensures.none (λ h. true≢false (sym h.0))

pub returns-in-None-clause-none : goal.returns-in-None-clause-none
returns-in-None-clause-none g c = none_of c.args.self.now (g.N.Row.key c.args.name) None c.rises.ensures (returns-in-None-clause-rank g c)
