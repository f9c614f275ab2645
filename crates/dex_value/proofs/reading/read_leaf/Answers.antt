use Rattle.std.proofs.Common.{◌∷◌, refl, ap, ◌∙◌, false, true}
use Rattle.program_types.specs.Content.{Null, Boolean}
use Rattle.program_types.proofs.ValueViews.{value_null, value_bool}
use Rattle.tables_rows.specs.Names.{NameIsAt}
use Rattle.dex_value.proofs.Taking.{takes_alone}
use Rattle.dex_value.proofs.reading.read_leaf.Goals as goal

pub returns-in-30-clause-ok : goal.returns-in-30-clause-ok
returns-in-30-clause-ok c = λ limit.
    rw value_null (takes_alone (NameIsAt c.args.tables.now) limit 30 c.args.bytes.now c.in-Some.rest.now Null (c.in-Some.ensures.cases.0 ∙ ap (λ h. h ∷ c.in-Some.rest.now) c.in-30.is) refl refl)

pub returns-in-31-clause-ok : goal.returns-in-31-clause-ok
returns-in-31-clause-ok c = λ limit.
    rw (value_bool false) (takes_alone (NameIsAt c.args.tables.now) limit 31 c.args.bytes.now c.in-Some.rest.now (Boolean false) (c.in-Some.ensures.cases.0 ∙ ap (λ h. h ∷ c.in-Some.rest.now) c.in-31.is) refl refl)

pub returns-in-63-clause-ok : goal.returns-in-63-clause-ok
returns-in-63-clause-ok c = λ limit.
    rw (value_bool true) (takes_alone (NameIsAt c.args.tables.now) limit 63 c.args.bytes.now c.in-Some.rest.now (Boolean true) (c.in-Some.ensures.cases.0 ∙ ap (λ h. h ∷ c.in-Some.rest.now) c.in-63.is) refl refl)
