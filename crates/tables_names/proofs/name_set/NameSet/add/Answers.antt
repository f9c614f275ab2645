use Rattle.std.proofs.Common.{ap, ◌∙◌}
use Rattle.std.specs.Ordering.{is_eq}
use Rattle.tables_names.proofs.NameSetLemmas.{keys-insert_last, stored_at}
use Rattle.tables_names.proofs.name_set.NameSet.add.Goals as goal

pub returns-clause-added : goal.returns-clause-added
returns-clause-added g c =
    rw (c.in_ok-number.ensures.keys, ← c.self.view_is) (keys-insert_last g.N.Row.key g.N.PartialEq.eq (λ x y. g.met.N.Ord.matches_eq x y ∙ ap is_eq (g.met.N.Row.cmp_by_key x y)) c.self.inside.items.keys c.args.name)

pub returns-clause-number : goal.returns-clause-number
returns-clause-number g c = stored_at g.N.Row.key g.N.PartialEq.eq (λ x y. g.met.N.Ord.matches_eq x y ∙ ap is_eq (g.met.N.Row.cmp_by_key x y)) c.insert_full.new.self.keys c.args.name c.in_ok-number.number c.in_ok-number.ensures.stored
