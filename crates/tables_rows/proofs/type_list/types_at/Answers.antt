use Rattle.std.proofs.Common.{arith, ◌<◌, ◌≤◌, map, length, ◌∙◌, subst}
use Rattle.std.proofs.lemmas.List.{map-append, take_all, length-map}
use Rattle.std.proofs.lemmas.Option.{slice_get_within}
use Rattle.std.specs.List.{AllZip}
use Rattle.program_types.specs.View.{desc}
use Rattle.tables_rows.specs.inner.Halves.{halves}
use Rattle.tables_rows.specs.Names.{TypeIsAt}
use Rattle.tables_rows.proofs.HalvesLaws.{u16_at-halves}
use Rattle.tables_rows.proofs.TypeLists.{no_list, no_type, list_of, zip_more}
use Rattle.tables_rows.proofs.type_list.types_at.Goals as goal

pub returns-in_default-clause-none : goal.returns-in_default-clause-none
returns-in_default-clause-none c = λ ts at. no_list (TypeIsAt (map desc c.args.types.now)) _ c.args.off c.in_default.ensures.none ts at

pub returns-in_default-type_in-clause-none : goal.returns-in_default-type_in-clause-none
returns-in_default-type_in-clause-none c =
    let xs = halves c.in-Some.indexes.now in
    let types = c.args.types.now in
    let lt : c.loop-j.j < length xs = omega (arith, c.loop-j-test.true, c.in-Some.ensures.even) in
    let past = subst (λ n. length types ≤ n) (c.from.ensures ∙ c.u16_at.ensures ∙ u16_at-halves c.in-Some.indexes.now c.loop-j.j lt) c.in_default-type_in.ensures.none in
    let size = length-map types desc in
    λ ts at. no_type (TypeIsAt (map desc types)) _ c.args.off xs c.loop-j.j c.requires.framed c.in-Some.ensures.some lt (λ t e. let within = slice_get_within (map desc types) _ t e in omega (arith, within, size, past)) ts at

pub returns-clause-found : goal.returns-clause-found
returns-clause-found c =
    let xs = halves c.in-Some.indexes.now in
    rw c.into_bump_slice.ensures (list_of (TypeIsAt (map desc c.args.types.now)) _ c.args.off xs _ c.in-Some.ensures.some (subst (λ ys. AllZip (TypeIsAt (map desc c.args.types.now)) ys (map desc c.loop-j.list.items)) (take_all c.loop-j.j xs (omega (arith, c.loop-j-test.false, c.in-Some.ensures.even))) c.loop-j.invariant))

pub loop-j-preserved : goal.loop-j-preserved
loop-j-preserved c =
    let xs = halves c.in-Some.indexes.now in
    let lt : c.loop-j.j < length xs = omega (arith, c.loop-j-test.true, c.in-Some.ensures.even) in
    rw (c.in_ok-push.ensures.items, map-append) (zip_more (TypeIsAt (map desc c.args.types.now)) xs c.loop-j.j _ (desc c.in-Some-type_in.ty) lt c.loop-j.invariant (subst (λ n. TypeIsAt (map desc c.args.types.now) n (desc c.in-Some-type_in.ty)) (c.from.ensures ∙ c.u16_at.ensures ∙ u16_at-halves c.in-Some.indexes.now c.loop-j.j lt) c.in-Some-type_in.ensures.some))
