use Rattle.std.proofs.Common.{refl, subst, sym}
use Rattle.program_types.specs.Content.{OfMethod}
use Rattle.program_types.specs.View as view
use Rattle.tables_names.specs.Keys.{key_of_desc}
use Rattle.tables_names.specs.Noted.{Notes}
use Rattle.tables_names.specs.Numbers.{sets}
use Rattle.tables_names.specs.Rank.{IsAt}
use Rattle.tables_names.specs.declared.noted.Number.TheVariants.{Method}
use Rattle.tables_names.proofs.FiveLemmas.{refused}
use Rattle.tables_names.proofs.NotedLemmas.{goes_on_more, goes_on_same, name_alone, noted_more, parts_alone}
use Rattle.tables_names.proofs.noted.Noted.note_method.Goals as goal

pub add_method_in-requires-clause-class : goal.add_method_in-requires-clause-class
add_method_in-requires-clause-class c =
    subst (λ (n : Notes). IsAt n.names.types c.args.number (key_of_desc c.args.name.now.class)) (sym c.self.view_is) c.requires.class

pub returns-clause-added : goal.returns-clause-added
returns-clause-added c =
    rw (← c.self.view_is)
    (record {
      added = c.in_ok-own.ensures.added;
      noted = λ names so_far. noted_more c.self.inside.numbered.names c.add_method_in.new.self.names names c.self.inside.numbers.items c.push.new.self.items (OfMethod (view.method_ref c.args.name.now)) (Method c.in_ok-own.own) c.in_ok-own.ensures.grows so_far c.in_ok-own.ensures.number c.in_ok-push.ensures.items;
    })

pub returns-clause-continues : goal.returns-clause-continues
returns-clause-continues c = rw (← c.self.view_is) (goes_on_more _ _ (Method c.in_ok-own.own) c.in_ok-own.ensures.grows c.in_ok-push.ensures.items)

pub returns-in_err-own-clause-partly : goal.returns-in_err-own-clause-partly
returns-in_err-own-clause-partly c =
    rw (← c.self.view_is) (refused c.from_residual.result (parts_alone (sets c.self.inside.numbered.names) (sets c.add_method_in.new.self.names) (OfMethod (view.method_ref c.args.name.now)) c.in_err-own.ensures.partly))

pub returns-in_err-own-clause-continues : goal.returns-in_err-own-clause-continues
returns-in_err-own-clause-continues c = rw (← c.self.view_is) (goes_on_same _ _ c.add_method_in.ensures.grows refl)

pub returns-in_err-push-clause-partly : goal.returns-in_err-push-clause-partly
returns-in_err-push-clause-partly c =
    rw (← c.self.view_is, c.in_ok-own.ensures.added) (refused c.from_residual-in_err-push.result (name_alone (sets c.self.inside.numbered.names) (OfMethod (view.method_ref c.args.name.now))))

pub returns-in_err-push-clause-continues : goal.returns-in_err-push-clause-continues
returns-in_err-push-clause-continues c = rw (← c.self.view_is) (goes_on_same _ _ c.add_method_in.ensures.grows c.in_err-push.ensures.items)
