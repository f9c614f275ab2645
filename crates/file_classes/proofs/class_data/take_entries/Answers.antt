use Rattle.std.proofs.Common.{map}
use Rattle.file_classes.specs.inner.Reading.{field_entry, method_entry, counts}
use Rattle.file_classes.proofs.TakingLaws.{none_counts, none_first, none_second, none_third, none_fourth, entries_taken}
use Rattle.file_classes.proofs.class_data.take_entries.Goals as goal

pub returns-in_default-clause-none : goal.returns-in_default-clause-none
returns-in_default-clause-none c = none_counts c.args.bytes.now c.in_default.ensures.none

pub returns-in_default-2-clause-none : goal.returns-in_default-2-clause-none
returns-in_default-2-clause-none c =
    none_first c.args.bytes.now (counts c.in-Some.counts) c.in-Some.lists.now c.in-Some.ensures.found (rw c.in_default-2.is at c.in_ok-statics.ensures.none)

pub returns-in_default-3-clause-none : goal.returns-in_default-3-clause-none
returns-in_default-3-clause-none c =
    none_second c.args.bytes.now (counts c.in-Some.counts) c.in-Some.lists.now c.in-Some.ensures.found
    (map field_entry c.in-Some-2.statics.items) c.in-Some-2.second.now (rw c.in-Some-2.is at c.in_ok-statics.ensures.found) (rw c.in_default-3.is at c.in_ok-instances.ensures.none)

pub returns-in_default-4-clause-none : goal.returns-in_default-4-clause-none
returns-in_default-4-clause-none c =
    none_third c.args.bytes.now (counts c.in-Some.counts) c.in-Some.lists.now c.in-Some.ensures.found
    (map field_entry c.in-Some-2.statics.items) c.in-Some-2.second.now (rw c.in-Some-2.is at c.in_ok-statics.ensures.found)
    (map field_entry c.in-Some-3.instances.items) c.in-Some-3.third.now (rw c.in-Some-3.is at c.in_ok-instances.ensures.found) (rw c.in_default-4.is at c.in_ok-directs.ensures.none)

pub returns-in_default-5-clause-none : goal.returns-in_default-5-clause-none
returns-in_default-5-clause-none c =
    none_fourth c.args.bytes.now (counts c.in-Some.counts) c.in-Some.lists.now c.in-Some.ensures.found
    (map field_entry c.in-Some-2.statics.items) c.in-Some-2.second.now (rw c.in-Some-2.is at c.in_ok-statics.ensures.found)
    (map field_entry c.in-Some-3.instances.items) c.in-Some-3.third.now (rw c.in-Some-3.is at c.in_ok-instances.ensures.found)
    (map method_entry c.in-Some-4.directs.items) c.in-Some-4.fourth.now (rw c.in-Some-4.is at c.in_ok-directs.ensures.found) (rw c.in_default-5.is at c.in_ok-virtuals.ensures.none)

pub returns-clause-found : goal.returns-clause-found
returns-clause-found c = (
  c.in-Some-5.field-0-1.now,
  entries_taken c.args.bytes.now (counts c.in-Some.counts) c.in-Some.lists.now c.in-Some.ensures.found
      (map field_entry c.in-Some-2.statics.items) c.in-Some-2.second.now (rw c.in-Some-2.is at c.in_ok-statics.ensures.found)
      (map field_entry c.in-Some-3.instances.items) c.in-Some-3.third.now (rw c.in-Some-3.is at c.in_ok-instances.ensures.found)
      (map method_entry c.in-Some-4.directs.items) c.in-Some-4.fourth.now (rw c.in-Some-4.is at c.in_ok-directs.ensures.found)
      (map method_entry c.in-Some-5.virtuals.items) c.in-Some-5.field-0-1.now (rw c.in-Some-5.is at c.in_ok-virtuals.ensures.found),
)
