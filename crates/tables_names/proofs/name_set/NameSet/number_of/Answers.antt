use Rattle.std.proofs.Common.{ap, ◌∙◌}
use Rattle.std.specs.Ordering.{is_eq}
use Rattle.tables_names.proofs.NameSetLemmas.{found_at, none_there}
use Rattle.tables_names.proofs.name_set.NameSet.number_of.Goals as goal

pub returns-clause-some : goal.returns-clause-some
returns-clause-some g c =
    rw (← c.self.view_is) (found_at g.N.Row.key g.N.PartialEq.eq (λ x y. g.met.N.Ord.matches_eq x y ∙ ap is_eq (g.met.N.Row.cmp_by_key x y)) c.self.inside.items.keys c.args.name.now c.get_index_of.result c.get_index_of.ensures.index)

pub returns-clause-none : goal.returns-clause-none
returns-clause-none g c =
    rw (← c.self.view_is) (none_there g.N.Row.key g.N.PartialEq.eq (λ x y. g.met.N.Ord.matches_eq x y ∙ ap is_eq (g.met.N.Row.cmp_by_key x y)) c.self.inside.items.keys c.args.name.now c.get_index_of.result c.get_index_of.ensures.found)
