use Rattle.std.proofs.Common.{arith}
use Rattle.tables_rows.proofs.TypeLists.{indexes_of}
use Rattle.tables_rows.specs.inner.Halves.{halves}
use Rattle.file_strip.proofs.ListLaws.{indexes_few, ranked_of, no_types, list_spelled}
use Rattle.file_strip.proofs.lists.renumber_list.Goals as goal

pub unreachable-requires : goal.unreachable-requires
unreachable-requires c =
    let x = indexes_of c.args.sections.now c.args.off c.requires.list.1 c.requires.list.2.stands in c.in_default.ensures.none x.indexes x.spelled

pub returns-then-count-eq0-clause-ok : goal.returns-then-count-eq0-clause-ok
returns-then-count-eq0-clause-ok c = λ s ts x.
    let xs = halves c.in-Some.indexes.now in
    no_types c.args.numbers.now s xs ts _ (omega (arith, c.in-Some.ensures.even)) c.new.ensures.items (ranked_of c.args.sections.now c.args.numbers.now s c.args.off xs ts c.section_of-lists.ensures.framed c.in-Some.ensures.some x)

pub put_numbers-requires-clause-ranked : goal.put_numbers-requires-clause-ranked
put_numbers-requires-clause-ranked c =
    let xs = halves c.in-Some.indexes.now in
    (c.requires.list.0, c.requires.list.1, ranked_of c.args.sections.now c.args.numbers.now c.requires.list.0 c.args.off xs c.requires.list.1 c.section_of-lists.ensures.framed c.in-Some.ensures.some c.requires.list.2)

pub returns-clause-ok : goal.returns-clause-ok
returns-clause-ok c = λ s ts x.
    let xs = halves c.in-Some.indexes.now in
    let few = indexes_few c.args.sections.now c.args.off xs c.in-Some.ensures.some in
    let r = ranked_of c.args.sections.now c.args.numbers.now s c.args.off xs ts c.section_of-lists.ensures.framed c.in-Some.ensures.some x in
    list_spelled c.args.numbers.now s xs ts c.in_ok-bytes.bytes.items c.push_words.new.out.items _ _ c.in_ok-bytes.ensures.items c.in_ok-push_words.ensures.ok (omega (arith, c.in-Some.ensures.even)) (omega arith) (omega (arith, few, c.in-Some.ensures.even)) r (c.in_ok-put_numbers.ensures.ok s ts r)
