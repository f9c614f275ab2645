use Rattle.std.proofs.Common.{◌≡◌, ◌+◌, ◌<◌, map, get_or, length, arith}
use Rattle.std.proofs.lemmas.List.{length-map, map-append}
use Rattle.dex_container.specs.Layout.{size_of}
use Rattle.program_types.specs.View.{str, desc, field_ref, member}
use Rattle.file_classes.specs.Classes.{IsField}
use Rattle.file_classes.specs.ClassFaults.{FieldOwner}
use Rattle.file_classes.proofs.MemberLaws.{field_stands, there, next_index, index_fails, step_fails, step_rises, all_run}
use Rattle.file_classes.specs.ClassData.{steps, index_of}
use Rattle.file_classes.specs.inner.Reading.{field_entry}
use Rattle.file_classes.specs.declared.class_data.FieldEntry.{FieldEntry}
use Rattle.file_classes.proofs.EntryLaws.{runs_more}
use Rattle.file_classes.proofs.EntryFaults.{field_owned}
use Rattle.file_classes.proofs.members.read_fields.Goals as goal
use Rattle.file_classes.proofs.members.read_fields.Goals.{else-entry-eq0-via-then-entry-eq0+else-len-gt0, else-entry-eq0-via-else-entry-eq0}
use Rattle.dex_base.proofs.ListFacts.{passed}

pub loop-entry-preserved : goal.loop-entry-preserved
loop-entry-preserved c =
    let es = c.args.entries.now in
    let k = c.loop-entry.entry-index in
    let d : FieldEntry = (record { step = 0; flags = 0 }) in
    let lt : k < length es = c.loop-entry-test.true in
    let is : c.loop-entry.index + c.from-index.result ≡ index_of (steps (map field_entry es)) k = next_index field_entry es k d lt c.loop-entry.index c.from-index.result c.loop-entry.invariant.summed c.from-index.ensures in
    let n = c.loop-entry.invariant.runs.count in
    let v = c.loop-entry.fields.ok.0 in
    let l = length-map c.loop-entry.fields.items member in
    let up : 0 < k → 0 < (get_or es k d).step = elim c.else-entry-eq0.branch [
      | else-entry-eq0-via-then-entry-eq0+else-len-gt0 w ↦ λ some. absurd (omega (arith, some, n, v, l, w.len.ensures, w.if-len-gt0.false))
      | else-entry-eq0-via-else-entry-eq0 w ↦ λ some. omega (arith, w.if-entry-eq0.false)
    ] in
    record {
      runs = rw (c.in_ok-push.ensures.items, map-append) (runs_more (IsField c.args.sections.now (desc c.args.owner.class)) (map field_entry es) k (map member c.loop-entry.fields.items) (field_entry (get_or es k d))
          (record { name = str c.in_ok-field.field.now.name; ty = desc c.in_ok-field.field.now.ty; flags = (get_or c.args.entries.now c.loop-entry.entry-index (record { step = 0; flags = 0 })).flags }) c.loop-entry.invariant.runs (there field_entry es k d lt)
          (field_stands c.args.sections.now (c.loop-entry.index + c.from-index.result) (index_of (steps (map field_entry es)) k) (field_ref c.in_ok-field.field.now) (desc c.args.owner.class) (field_entry (get_or es k d)) is c.in_ok-field.ensures.class c.in_ok-field.ensures.stands) (step_rises field_entry es k d lt up));
      summed = is;
      small = c.in_ok-field.ensures.small;
    }

pub returns-clause-ok : goal.returns-clause-ok
returns-clause-ok c =
    let es = c.args.entries.now in
    let l = length-map es field_entry in
    rw c.into_bump_slice.ensures (all_run (IsField c.args.sections.now (desc c.args.owner.class)) (map field_entry es) c.loop-entry.entry-index (map member c.loop-entry.fields.items) (omega (arith, l, c.loop-entry-test.false, c.loop-entry.auto.entry-index-end)) c.loop-entry.invariant.runs)

pub returns-then-len-gt0-clause-err : goal.returns-then-len-gt0-clause-err
returns-then-len-gt0-clause-err c =
    let b = c.args.sections.now in
    let n = c.loop-entry.invariant.runs.count in
    let v = c.loop-entry.fields.ok.0 in
    let l = length-map c.loop-entry.fields.items member in
    λ _. rw c.at.ensures (step_fails field_entry c.args.entries.now c.loop-entry.entry-index (record { step = 0; flags = 0 }) c.loop-entry-test.true (IsField b (desc c.args.owner.class)) (FieldOwner b) (desc c.args.owner.class) (field_owned b (desc c.args.owner.class)) _ c.loop-entry.invariant.runs (size_of b 3) c.loop-entry.index c.from-index.result
    c.args.owner.place c.loop-entry.invariant.summed c.from-index.ensures c.in_ok-field.ensures.stands.row (field_ref c.in_ok-field.field.now, c.in_ok-field.ensures.stands, c.in_ok-field.ensures.class) (omega (arith, n, v, l, c.len.ensures, c.if-len-gt0.true)) c.if-entry-eq0.true)

pub returns-in_err-field-clause-err : goal.returns-in_err-field-clause-err
returns-in_err-field-clause-err c =
    let b = c.args.sections.now in
    passed _ _ _ c.from_residual-in_err-field.ensures.1 (λ _. index_fails field_entry c.args.entries.now c.loop-entry.entry-index (record { step = 0; flags = 0 }) c.loop-entry-test.true (IsField b (desc c.args.owner.class)) (FieldOwner b) (desc c.args.owner.class) (field_owned b (desc c.args.owner.class)) _ c.loop-entry.invariant.runs (size_of b 3) c.loop-entry.index c.from-index.result
    c.args.owner.place c.loop-entry.invariant.summed c.from-index.ensures _ c.in_err-field.ensures.err)
