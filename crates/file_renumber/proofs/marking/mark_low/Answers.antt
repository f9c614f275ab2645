use Rattle.std.proofs.Common.{List, ap, sym, subst, ◌∙◌, arith}
use Rattle.std.proofs.lemmas.Result.{on_ok_weaker}
use Rattle.program_types.specs.Content.{Name}
use Rattle.dex_value.specs.Faults.{widest_of}
use Rattle.dex_value.specs.Reading.{sized_code, table_of_type}
use Rattle.dex_value.specs.Spelling.{unsigned_of}
use Rattle.file_renumber.specs.inner.Marked.{AddsNames}
use Rattle.file_renumber.proofs.MarkLemmas.{adds_none}
use Rattle.file_renumber.proofs.NameLemmas.{row_of_low, row_for, no_name, named_four}
use Rattle.file_renumber.proofs.marking.mark_low.Goals as goal

pub mark-requires-clause-row : goal.mark-requires-clause-row
mark-requires-clause-row c =
    let b = c.args.sections.now in
    let ty = c.in-Name.ty in
    let r = row_of_low b ty _ c.args.low.now c.requires.low.0 (sym (ap sized_code c.in-Name.is) ∙ c.in-Some.ensures.some) c.requires.low.1 in
    (r.which, row_for b (table_of_type ty) c.name_kind.result (unsigned_of c.args.low.now) c.unsigned-index.result r.which c.name_kind.ensures c.unsigned-index.ensures.value r.row)

pub returns-in-Name-clause-marked : goal.returns-in-Name-clause-marked
returns-in-Name-clause-marked c =
    let b = c.args.sections.now in
    let ty = c.in-Name.ty in
    on_ok_weaker c.mark.result
    (λ f v l.
    let r = row_of_low b ty _ c.args.low.now v (sym (ap sized_code c.in-Name.is) ∙ c.in-Some.ensures.some) l in
    subst (λ (ns : List Name). AddsNames b c.args.marks.now c.mark.new.self ns) (sym r.names)
    (f r.which (row_for b (table_of_type ty) c.name_kind.result (unsigned_of c.args.low.now) c.unsigned-index.result r.which c.name_kind.ensures c.unsigned-index.ensures.value r.row)))
    c.mark.ensures.marked

pub returns-in-Number-clause-marked : goal.returns-in-Number-clause-marked
returns-in-Number-clause-marked c = λ v l.
    let b = c.args.sections.now in
    subst (λ (ns : List Name). AddsNames b c.args.marks.now c.args.marks.now ns) (sym (no_name b c.in-Number.field-0 _ c.args.low.now v (sym (ap sized_code c.in-Number.is) ∙ c.in-Some.ensures.some) l)) (adds_none b c.args.marks.now)

pub unsigned-index-requires-clause-few : goal.unsigned-index-requires-clause-few
unsigned-index-requires-clause-few c =
    let four = named_four c.in-Name.ty in
    let is = ap widest_of (sym (ap sized_code c.in-Name.is) ∙ c.in-Some.ensures.some) in
    let few = c.requires.low.1.few in
    omega (arith, four, is, few)

pub overflow_cast-index : goal.overflow_cast-index
overflow_cast-index c =
    let four = named_four c.in-Name.ty in
    let is = ap widest_of (sym (ap sized_code c.in-Name.is) ∙ c.in-Some.ensures.some) in
    let few = c.requires.low.1.few in
    let fits = c.unsigned-index.ensures.index (omega (arith, four, is, few)) in
    omega (arith, fits)

pub unreachable-requires : goal.unreachable-requires
unreachable-requires c =
    let none = c.in_default.ensures.none in
    let some = c.requires.low.1.some in
    let few = c.requires.low.1.few in
    omega (arith, none, some, few)
