use Rattle.std.proofs.Common.{map, ap}
use Rattle.tables_names.proofs.name_set.NameSet.ranked.Goals as goal

pub invariant_of-result : goal.invariant_of-result
invariant_of-result g c = rw (c.in_ok-names.ensures, c.in_ok-ranks.ensures.items, c.self.view_is) c.requires

pub returns : goal.returns
returns g c = ap (map g.N.Row.key) c.in_ok-names.ensures
