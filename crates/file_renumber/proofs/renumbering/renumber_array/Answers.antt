use Rattle.std.proofs.Common.{rules, ◌≡◌, [], length, ◌∙◌}
use Rattle.tables_names.specs.Closure.{NameRanks}
use Rattle.tables_rows.specs.Stands.{NameStands}
use Rattle.file_renumber.proofs.FrontLemmas.{array_parts}
use Rattle.file_renumber.proofs.CarryLemmas.{values_carried, no_item, item_is}
use Rattle.file_renumber.proofs.renumbering.renumber_array.Goals as goal
use Rattle.dex_base.proofs.ListFacts.{number_one}

pub array_at-requires : goal.array_at-requires
array_at-requires c = (c.requires.2.most, c.requires.1, c.requires.2.stands)

pub take_number-count-requires : goal.take_number-count-requires
take_number-count-requires c =
    let vs = c.requires.1 in
    let x = c.array_at.ensures.spelled c.requires.2.most vs c.requires.2.stands in
    let parts = array_parts (NameStands c.args.sections.now) c.array_at.result.now vs x.0 x.1 in
    (length vs, parts.0, parts.1)

pub returns-then-count-eq0-clause-ok : goal.returns-then-count-eq0-clause-ok
returns-then-count-eq0-clause-ok c = λ s vs a.
    let x = c.array_at.ensures.spelled a.most vs a.stands in
    let parts = array_parts (NameStands c.args.sections.now) c.array_at.result.now vs x.0 x.1 in
    let one = number_one c.array_at.result.now (length vs) c.take_number-count.result.0 parts.0 c.take_number-count.result.1.now parts.1 c.take_number-count.ensures.taken in
    let empty : c.new-out.result.items ≡ [] = search rules in
    no_item (NameRanks s) c.new-out.result.items vs (one.0 ∙ c.if-count-eq0.true) empty

pub renumber_values-requires : goal.renumber_values-requires
renumber_values-requires c =
    let b = c.args.sections.now in
    let s = c.requires.0 in
    let vs = c.requires.1 in
    let a = c.requires.2 in
    let x = c.array_at.ensures.spelled a.most vs a.stands in
    let parts = array_parts (NameStands b) c.array_at.result.now vs x.0 x.1 in
    values_carried b c.args.off c.args.numbers.now s vs c.take_number-count.result.0 c.array_at.result.now c.take_number-count.result.1.now parts.0 x.0 c.array_at.ensures.framed a parts.1 c.take_number-count.ensures.taken parts.2

pub returns-clause-ok : goal.returns-clause-ok
returns-clause-ok c = λ s vs a.
    let b = c.args.sections.now in
    let x = c.array_at.ensures.spelled a.most vs a.stands in
    let parts = array_parts (NameStands b) c.array_at.result.now vs x.0 x.1 in
    let one = number_one c.array_at.result.now (length vs) c.take_number-count.result.0 parts.0 c.take_number-count.result.1.now parts.1 c.take_number-count.ensures.taken in
    let empty : c.new-out.result.items ≡ [] = search rules in
    item_is (NameRanks s) c.new-out.result.items c.put_uleb.new.out.items c.renumber_values.new.out.items c.take_number-count.result.0 vs empty one.0 c.if-count-eq0.false c.in_ok-put_uleb.ensures.ok
    (c.in_ok-renumber_values.ensures.ok (values_carried b c.args.off c.args.numbers.now s vs c.take_number-count.result.0 c.array_at.result.now c.take_number-count.result.1.now parts.0 x.0 c.array_at.ensures.framed a parts.1 c.take_number-count.ensures.taken parts.2))
