use Rattle.std.proofs.Common.{◌≡◌, ◌*◌, length, arith, refl, inl}
use Rattle.tables_rows.proofs.TypeLists.{indexes_of}
use Rattle.tables_rows.specs.inner.Halves.{halves}
use Rattle.file_strip.proofs.SizeLaws.{no_list, some_list}
use Rattle.file_strip.proofs.sizes.list_size.Goals as goal
use Rattle.file_renumber.proofs.MarkLemmas.{types_count}

pub unreachable-requires : goal.unreachable-requires
unreachable-requires c = let x = indexes_of c.args.sections.now c.args.off c.requires.0 c.requires.1 in c.in_default.ensures.none x.indexes x.spelled

pub returns-in-0 : goal.returns-in-0
returns-in-0 c = λ ts st.
    let n = types_count c.args.sections.now c.args.off (halves c.in-Some.indexes.now) ts c.section_of-lists.ensures.framed c.in-Some.ensures.some st in
    no_list ts (omega (arith, n, c.in-Some.ensures.even, c.in-0.is))

pub returns-in_default-len : goal.returns-in_default-len
returns-in_default-len c = λ ts st.
    let n = types_count c.args.sections.now c.args.off (halves c.in-Some.indexes.now) ts c.section_of-lists.ensures.framed c.in-Some.ensures.some st in
    let twice : length c.in-Some.indexes.now ≡ 2 * length ts = omega (arith, n, c.in-Some.ensures.even) in
    some_list ts c.plus.result (omega (arith, twice, c.in_default-len)) (c.plus.ensures 7 (2 * length ts) (inl refl) (inl twice))
