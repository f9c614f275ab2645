use Rattle.std.proofs.Common.{refl}
use Rattle.program_types.specs.Content.{OfDesc}
use Rattle.program_types.specs.View as view
use Rattle.tables_names.specs.Numbers.{sets}
use Rattle.tables_names.proofs.FiveLemmas.{refused}
use Rattle.tables_names.proofs.NotedLemmas.{parts_alone}
use Rattle.tables_names.proofs.noted.Noted.add_class.Goals as goal

pub returns-clause-added : goal.returns-clause-added
returns-clause-added c = rw (← c.self.view_is) c.in_ok-number.ensures.added

pub returns-clause-grows : goal.returns-clause-grows
returns-clause-grows c = rw (← c.self.view_is) c.in_ok-number.ensures.grows

pub returns-clause-same : goal.returns-clause-same
returns-clause-same c = rw (← c.self.view_is) refl

pub returns-in_err-number-clause-partly : goal.returns-in_err-number-clause-partly
returns-in_err-number-clause-partly c =
    rw (← c.self.view_is) (refused c.from_residual.result (parts_alone (sets c.self.inside.numbered.names) (sets c.add_type.new.self.names) (OfDesc (view.desc c.args.class)) c.in_err-number.ensures.partly))

pub returns-in_err-number-clause-grows : goal.returns-in_err-number-clause-grows
returns-in_err-number-clause-grows c = rw (← c.self.view_is) c.add_type.ensures.grows

pub returns-in_err-number-clause-same : goal.returns-in_err-number-clause-same
returns-in_err-number-clause-same c = rw (← c.self.view_is) refl
