use Rattle.program_types.specs.View.{name}
use Rattle.tables_names.specs.Numbers.{sets}
use Rattle.tables_names.proofs.FiveLemmas.{refused}
use Rattle.tables_names.proofs.NotedLemmas.{name_alone, noted_more, noted_still, parts_alone}
use Rattle.tables_names.proofs.noted.Noted.add_name.Goals as goal

pub returns-clause-added : goal.returns-clause-added
returns-clause-added c = rw (← c.self.view_is) c.in_ok-number.ensures.added

pub returns-clause-noted : goal.returns-clause-noted
returns-clause-noted c =
    rw (← c.self.view_is)
    (λ names so_far. noted_more c.self.inside.numbered.names c.add_name.new.self.names names c.self.inside.numbers.items c.push.new.self.items (name c.args.name) c.in_ok-number.number c.in_ok-number.ensures.grows so_far c.in_ok-number.ensures.number c.in_ok-push.ensures.items)

pub returns-in_err-number-clause-partly : goal.returns-in_err-number-clause-partly
returns-in_err-number-clause-partly c =
    rw (← c.self.view_is) (refused c.from_residual.result (parts_alone (sets c.self.inside.numbered.names) (sets c.add_name.new.self.names) (name c.args.name) c.in_err-number.ensures.partly))

pub returns-in_err-number-clause-stays : goal.returns-in_err-number-clause-stays
returns-in_err-number-clause-stays c =
    rw (← c.self.view_is)
    (refused c.from_residual.result (λ names so_far. noted_still c.self.inside.numbered.names c.add_name.new.self.names names c.self.inside.numbers.items c.add_name.ensures.grows so_far))

pub returns-in_err-push-clause-partly : goal.returns-in_err-push-clause-partly
returns-in_err-push-clause-partly c =
    rw (← c.self.view_is, c.in_ok-number.ensures.added) (refused c.from_residual-in_err-push.result (name_alone (sets c.self.inside.numbered.names) (name c.args.name)))

pub returns-in_err-push-clause-stays : goal.returns-in_err-push-clause-stays
returns-in_err-push-clause-stays c =
    rw (← c.self.view_is, c.in_err-push.ensures.items)
    (refused c.from_residual-in_err-push.result (λ names so_far. noted_still c.self.inside.numbered.names c.add_name.new.self.names names c.self.inside.numbers.items c.add_name.ensures.grows so_far))
