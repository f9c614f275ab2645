use Rattle.std.proofs.Common.{map}
use Rattle.tables_names.proofs.UnionLemmas.{rising-add_all, rising-none}
use Rattle.tables_names.proofs.name_set.Ranked.rises.Goals as goal

pub returns : goal.returns
returns g c = rw (← c.self.view_is, c.self.invariant.same) (rising-add_all _ (map g.N.Row.key c.self.inside.items.keys) rising-none)
