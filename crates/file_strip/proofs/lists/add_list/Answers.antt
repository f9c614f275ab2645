use Rattle.std.proofs.Common.{arith}
use Rattle.file_layout.specs.inner.Sections.{is_empty_list}
use Rattle.file_put.specs.inner.Lists.{SpellsRanks}
use Rattle.file_strip.specs.inner.Lists.{WritesList}
use Rattle.file_strip.proofs.ListLaws.{room_of_bytes}
use Rattle.file_strip.proofs.MovedLaws.{item_again, item_used, moved_more}
use Rattle.file_strip.proofs.lists.add_list.Goals as goal

pub returns-in-Some-clause-ok : goal.returns-in-Some-clause-ok
returns-in-Some-clause-ok c = λ s ts x.
    let m = c.requires.moved c.args.off c.in-Some.place c.in-Some.ensures in
    item_again is_empty_list (SpellsRanks s) 4 c.args.moved.now.items c.args.out.now.items m.0 ts c.in-Some.place (m.1 s ts x) m.2

pub renumber_list-requires : goal.renumber_list-requires
renumber_list-requires c = record { list = (c.requires.list.0, c.requires.list.1, c.requires.list.2) }

pub put_aligned-requires : goal.put_aligned-requires
put_aligned-requires c = record {
  room = λ some.
      let l = c.requires.list in
      let w = room_of_bytes l.0 c.in_ok-bytes.bytes.items l.1 (c.in_ok-bytes.ensures.ok l.0 l.1 l.2) some in
      omega (arith, w, l.3);
}

pub returns-clause-ok : goal.returns-clause-ok
returns-clause-ok c = λ s ts x. item_used is_empty_list (SpellsRanks s) 4 _ _ _ _ c.in_ok-bytes.bytes.items ts _ (c.in_ok-bytes.ensures.ok s ts x) c.in_ok-put_aligned.ensures.ok

pub returns-clause-moved : goal.returns-clause-moved
returns-clause-moved c =
    moved_more (WritesList c.args.sections.now c.args.numbers.now) 4 c.args.moved.now.items c.put_aligned.new.self.items _ _ c.in_ok-bytes.bytes.items c.args.off _ c.args.moved.now.places c.put_aligned.new.self.places c.requires.moved c.in_ok-bytes.ensures.ok
    c.in_ok-put_aligned.ensures.ok c.in_ok-put_aligned.ensures.moved
