use Rattle.std.proofs.Common.{length, arith}
use Rattle.tables_rows.specs.Stands.{NameStands}
use Rattle.file_renumber.proofs.FrontLemmas.{array_parts, values_due}
use Rattle.file_renumber.proofs.marking.mark_array.Goals as goal

pub take_number-count-requires : goal.take_number-count-requires
take_number-count-requires c =
    let vs = c.requires.stands.1 in
    let x = c.array_at.ensures.spelled c.requires.stands.0 vs c.requires.stands.2 in
    let parts = array_parts (NameStands c.args.sections.now) c.array_at.result.now vs x.0 x.1 in
    (length vs, parts.0, parts.1)

pub mark_values-requires-clause-few : goal.mark_values-requires-clause-few
mark_values-requires-clause-few c = let short = c.array_at.ensures.short in let less = c.take_number-count.ensures.short in omega (arith, short, less)

pub mark_values-requires-clause-values : goal.mark_values-requires-clause-values
mark_values-requires-clause-values c =
    let N = NameStands c.args.sections.now in
    let vs = c.requires.stands.1 in
    let x = c.array_at.ensures.spelled c.requires.stands.0 vs c.requires.stands.2 in
    let parts = array_parts N c.array_at.result.now vs x.0 x.1 in
    (vs, x.0, values_due N c.array_at.result.now (length vs) c.take_number-count.result.0 parts.0 c.take_number-count.result.1.now vs x.0 parts.1 c.take_number-count.ensures.taken parts.2)

pub returns-clause-marked : goal.returns-clause-marked
returns-clause-marked c = λ most vs a.
    let N = NameStands c.args.sections.now in
    let x = c.array_at.ensures.spelled most vs a in
    let parts = array_parts N c.array_at.result.now vs x.0 x.1 in
    let due = values_due N c.array_at.result.now (length vs) c.take_number-count.result.0 parts.0 c.take_number-count.result.1.now vs x.0 parts.1 c.take_number-count.ensures.taken parts.2 in
    (c.in_ok-wide.ensures.marked vs x.0 due).marked

pub returns-clause-wide : goal.returns-clause-wide
returns-clause-wide c = λ most vs a.
    let N = NameStands c.args.sections.now in
    let x = c.array_at.ensures.spelled most vs a in
    let parts = array_parts N c.array_at.result.now vs x.0 x.1 in
    let due = values_due N c.array_at.result.now (length vs) c.take_number-count.result.0 parts.0 c.take_number-count.result.1.now vs x.0 parts.1 c.take_number-count.ensures.taken parts.2 in
    (c.in_ok-wide.ensures.marked vs x.0 due).wide
