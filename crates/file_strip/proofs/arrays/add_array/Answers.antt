use Rattle.std.proofs.Common.{arith}
use Rattle.file_layout.specs.inner.Sections.{is_empty_list}
use Rattle.file_put.specs.inner.Arrays.{WritesArray}
use Rattle.file_strip.specs.inner.Statics.{WritesStatics}
use Rattle.file_strip.proofs.StaticsLaws.{array_carried, no_array, array_item, eq_off, off_some}
use Rattle.file_strip.proofs.MovedLaws.{item_again, item_used, moved_more}
use Rattle.file_strip.proofs.arrays.add_array.Goals as goal

pub returns-then-off-eq0-clause-ok : goal.returns-then-off-eq0-clause-ok
returns-then-off-eq0-clause-ok c = λ s vs x. no_array c.args.sections.now c.args.numbers.now s c.args.off vs c.args.moved.now.items c.args.out.now.items (eq_off (omega arith)) x

pub returns-in-Some-clause-ok : goal.returns-in-Some-clause-ok
returns-in-Some-clause-ok c = λ s vs x.
    let m = c.requires.moved c.args.off c.in-Some.place c.in-Some.ensures in
    item_again is_empty_list (WritesArray s) 1 c.args.moved.now.items c.args.out.now.items m.0 vs c.in-Some.place (m.1 s vs (array_carried c.args.sections.now c.args.numbers.now s c.args.off vs (off_some (λ e. omega (arith, e))) x)) m.2

pub renumber_array-requires : goal.renumber_array-requires
renumber_array-requires c = (c.requires.values.0, c.requires.values.1, array_carried c.args.sections.now c.args.numbers.now c.requires.values.0 c.args.off c.requires.values.1 (off_some (λ e. omega (arith, e))) c.requires.values.2)

pub returns-clause-ok : goal.returns-clause-ok
returns-clause-ok c = λ s vs x.
    item_used is_empty_list (WritesArray s) 1 _ _ _ _ c.in_ok-bytes.bytes.items vs _ (array_item s c.in_ok-bytes.bytes.items vs (rw c.deref.ensures.value at c.are_bytes.ensures.each) (c.in_ok-bytes.ensures.ok s vs (array_carried c.args.sections.now c.args.numbers.now s c.args.off vs (off_some (λ e. omega (arith, e))) x))) c.in_ok-put.ensures.ok

pub returns-clause-moved : goal.returns-clause-moved
returns-clause-moved c =
    moved_more (WritesStatics c.args.sections.now c.args.numbers.now) 1 c.args.moved.now.items c.put.new.self.items _ _ c.in_ok-bytes.bytes.items c.args.off _ c.args.moved.now.places c.put.new.self.places c.requires.moved
    (λ s vs x. array_item s c.in_ok-bytes.bytes.items vs (rw c.deref.ensures.value at c.are_bytes.ensures.each) (c.in_ok-bytes.ensures.ok s vs x)) c.in_ok-put.ensures.ok c.in_ok-put.ensures.moved
