use Rattle.std.proofs.Common.{List, ◌∷◌, [], map, get_or, subst, arith, refl}
use Rattle.std.proofs.lemmas.List.{length-map}
use Rattle.program_types.specs.Content.{Member}
use Rattle.program_types.specs.Mentions.{field_of_class}
use Rattle.file_renumber.specs.inner.Marked.{AddsNames}
use Rattle.file_renumber.proofs.MarkLemmas.{has_marks_after}
use Rattle.file_classes.specs.Classes.{IsField}
use Rattle.file_classes.specs.inner.Reading.{field_entry}
use Rattle.file_classes.specs.declared.class_data.FieldEntry.{FieldEntry}
use Rattle.file_classes.proofs.MemberLaws.{next_index}
use Rattle.file_strip.proofs.WalkLaws.{all_of_run, field_row, field_small, field_step, next_field}
use Rattle.file_strip.proofs.members.mark_fields.Goals as goal

pub overflow_add-index : goal.overflow_add-index
overflow_add-index c =
    let b = c.args.sections.now in
    let d : FieldEntry = (record { step = 0; flags = 0 }) in
    let f = field_step b c.args.entries.now c.loop-entry.entry-index d c.loop-entry-test.true c.loop-entry.index c.loop-entry.invariant.summed c.requires.run.class c.requires.run.fields c.requires.run.spelled in
    record { fits = field_small b c.loop-entry.marks c.requires.run.class _ _ f.0 c.loop-entry.invariant.marks f.2 }

pub mark-requires-clause-row : goal.mark-requires-clause-row
mark-requires-clause-row c =
    let b = c.args.sections.now in
    let d : FieldEntry = (record { step = 0; flags = 0 }) in
    let f = field_step b c.args.entries.now c.loop-entry.entry-index d c.loop-entry-test.true c.loop-entry.index c.loop-entry.invariant.summed c.requires.run.class c.requires.run.fields c.requires.run.spelled in
    (field_of_class c.requires.run.class f.0, field_row b c.requires.run.class _ _ f.0 f.2)

pub loop-entry-preserved : goal.loop-entry-preserved
loop-entry-preserved c =
    let b = c.args.sections.now in
    let es = c.args.entries.now in
    let k = c.loop-entry.entry-index in
    let d : FieldEntry = (record { step = 0; flags = 0 }) in
    let f = field_step b es k d c.loop-entry-test.true c.loop-entry.index c.loop-entry.invariant.summed c.requires.run.class c.requires.run.fields c.requires.run.spelled in
    record {
      summed = next_index field_entry es k d c.loop-entry-test.true c.loop-entry.index (get_or es k d).step c.loop-entry.invariant.summed refl;
      small = field_small b c.loop-entry.marks c.requires.run.class _ _ f.0 c.loop-entry.invariant.marks f.2;
      marks = has_marks_after b c.loop-entry.marks c.mark.new.self (field_of_class c.requires.run.class f.0 ∷ []) c.loop-entry.invariant.marks (c.in_ok-mark.ensures.marked (field_of_class c.requires.run.class f.0) (field_row b c.requires.run.class _ _ f.0 f.2));
      marked = λ x.
          let g = field_step b es k d c.loop-entry-test.true c.loop-entry.index c.loop-entry.invariant.summed x.class x.fields x.spelled in
          next_field b c.args.marks.now c.loop-entry.marks c.mark.new.self x.class x.fields k g.0 g.1 (c.loop-entry.invariant.marked x) (c.in_ok-mark.ensures.marked (field_of_class x.class g.0) (field_row b x.class _ _ g.0 g.2));
    }

pub returns-clause-marked : goal.returns-clause-marked
returns-clause-marked c = λ x.
    let b = c.args.sections.now in
    let es = c.args.entries.now in
    let l = length-map es field_entry in
    subst (λ (xs : List Member). AddsNames b c.args.marks.now c.loop-entry.marks (map (field_of_class x.class) xs))
    (all_of_run (IsField b x.class) (map field_entry es) x.fields c.loop-entry.entry-index x.spelled (omega (arith, l, c.loop-entry-test.false))) (c.loop-entry.invariant.marked x)
