use Rattle.std.proofs.Common.{subst, ◌≡◌}
use Rattle.std.specs.Prelude.{false}
use Rattle.tables_names.specs.Keys.{key_of_field}
use Rattle.tables_names.specs.Rank.{is_member}
use Rattle.tables_names.specs.Closure.{with_name}
use Rattle.tables_names.specs.Numbers.{Order}
use Rattle.tables_names.proofs.PlaceLemmas.{member_at}
use Rattle.tables_names.proofs.NumberLemmas.{AllGrow-refl}
use Rattle.tables_names.proofs.NumberedNamesLemmas.{order_of, none_when, field_is_there}
use Rattle.tables_names.proofs.numbered.NumberedNames.add_field_in.Goals as goal

pub returns-in-Some-clause-added : goal.returns-in-Some-clause-added
unfolding with_name
returns-in-Some-clause-added c =
    rw (← c.self.view_is) (field_is_there (order_of c.self.inside) c.self.invariant (key_of_field c.args.name.now) (member_at c.self.inside.fields.names c.in-Some.number (key_of_field c.args.name.now) c.in-Some.ensures.some))

pub returns-in-Some-clause-grows : goal.returns-in-Some-clause-grows
returns-in-Some-clause-grows c = AllGrow-refl c.args.self.now.names

pub put_field-requires-clause-absent : goal.put_field-requires-clause-absent
put_field-requires-clause-absent c =
    subst (λ (x : Order). is_member x.names.fields (key_of_field c.args.name.now) ≡ false) c.self.view_is (none_when c.number_of.result c.number_of.ensures.none c.in_default.not-Some)
