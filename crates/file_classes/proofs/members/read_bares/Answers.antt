use Rattle.std.proofs.Common.{◌≡◌, ◌+◌, ◌<◌, map, get_or, length, refl, arith}
use Rattle.std.proofs.lemmas.List.{length-map}
use Rattle.dex_container.specs.Layout.{size_of}
use Rattle.program_types.specs.View.{desc, method_ref}
use Rattle.file_classes.specs.ClassFaults.{MethodOwner}
use Rattle.file_classes.specs.inner.Reading.{IsBare, method_entry}
use Rattle.file_classes.proofs.MemberLaws.{bare_stands, there, next_index, index_fails, step_fails, step_rises, all_run}
use Rattle.file_classes.specs.ClassData.{steps, index_of}
use Rattle.file_classes.specs.declared.class_data.MethodEntry.{MethodEntry}
use Rattle.file_classes.proofs.EntryLaws.{runs_more}
use Rattle.file_classes.proofs.EntryFaults.{bare_owned}
use Rattle.file_classes.proofs.members.read_bares.Goals as goal
use Rattle.file_classes.proofs.members.read_bares.Goals.{else-entry-eq0-via-then-entry-eq0+else-len-gt0, else-entry-eq0-via-else-entry-eq0}
use Rattle.dex_base.proofs.ListFacts.{passed}

pub loop-entry-preserved : goal.loop-entry-preserved
loop-entry-preserved c =
    let es = c.args.entries.now in
    let k = c.loop-entry.entry-index in
    let d : MethodEntry = (record { step = 0; flags = 0; code = 0 }) in
    let lt : k < length es = c.loop-entry-test.true in
    let is : c.loop-entry.index + c.from-index.result ≡ index_of (steps (map method_entry es)) k = next_index method_entry es k d lt c.loop-entry.index c.from-index.result c.loop-entry.invariant.summed c.from-index.ensures in
    let n = c.loop-entry.invariant.runs.count in
    let v = c.loop-entry.bares.ok.0 in
    let up : 0 < k → 0 < (get_or es k d).step = elim c.else-entry-eq0.branch [
      | else-entry-eq0-via-then-entry-eq0+else-len-gt0 w ↦ λ some. absurd (omega (arith, some, n, v, w.len.ensures, w.if-len-gt0.false))
      | else-entry-eq0-via-else-entry-eq0 w ↦ λ some. omega (arith, w.if-entry-eq0.false)
    ] in
    record {
      runs = rw c.in_ok-push.ensures.items (runs_more (IsBare c.args.sections.now (desc c.args.owner.class)) (map method_entry es) k c.loop-entry.bares.items (method_entry (get_or es k d))
          (record { method = c.in_ok-method.method; flags = (get_or c.args.entries.now c.loop-entry.entry-index (record { step = 0; flags = 0; code = 0 })).flags; code = (get_or c.args.entries.now c.loop-entry.entry-index (record { step = 0; flags = 0; code = 0 })).code }) c.loop-entry.invariant.runs (there method_entry es k d lt)
          (bare_stands c.args.sections.now (c.loop-entry.index + c.from-index.result) (index_of (steps (map method_entry es)) k) (record { method = c.in_ok-method.method; flags = (get_or es k d).flags; code = (get_or es k d).code }) (desc c.args.owner.class) (method_entry (get_or es k d)) is c.in_ok-method.ensures.class refl refl c.in_ok-method.ensures.stands)
          (step_rises method_entry es k d lt up));
      summed = is;
      small = c.in_ok-method.ensures.small;
    }

pub returns-clause-ok : goal.returns-clause-ok
returns-clause-ok c =
    let es = c.args.entries.now in
    let l = length-map es method_entry in
    rw c.into_bump_slice.ensures (all_run (IsBare c.args.sections.now (desc c.args.owner.class)) (map method_entry es) c.loop-entry.entry-index c.loop-entry.bares.items (omega (arith, l, c.loop-entry-test.false, c.loop-entry.auto.entry-index-end)) c.loop-entry.invariant.runs)

pub returns-then-len-gt0-clause-err : goal.returns-then-len-gt0-clause-err
returns-then-len-gt0-clause-err c =
    let b = c.args.sections.now in
    let n = c.loop-entry.invariant.runs.count in
    let v = c.loop-entry.bares.ok.0 in
    λ _. rw c.at.ensures (step_fails method_entry c.args.entries.now c.loop-entry.entry-index (record { step = 0; flags = 0; code = 0 }) c.loop-entry-test.true (IsBare b (desc c.args.owner.class)) (MethodOwner b) (desc c.args.owner.class) (bare_owned b (desc c.args.owner.class)) _ c.loop-entry.invariant.runs (size_of b 4) c.loop-entry.index c.from-index.result
    c.args.owner.place c.loop-entry.invariant.summed c.from-index.ensures c.in_ok-method.ensures.stands.row (method_ref c.in_ok-method.method.now, c.in_ok-method.ensures.stands, c.in_ok-method.ensures.class) (omega (arith, n, v, c.len.ensures, c.if-len-gt0.true)) c.if-entry-eq0.true)

pub returns-in_err-method-clause-err : goal.returns-in_err-method-clause-err
returns-in_err-method-clause-err c =
    let b = c.args.sections.now in
    passed _ _ _ c.from_residual-in_err-method.ensures.1 (λ _. index_fails method_entry c.args.entries.now c.loop-entry.entry-index (record { step = 0; flags = 0; code = 0 }) c.loop-entry-test.true (IsBare b (desc c.args.owner.class)) (MethodOwner b) (desc c.args.owner.class) (bare_owned b (desc c.args.owner.class)) _ c.loop-entry.invariant.runs (size_of b 4) c.loop-entry.index c.from-index.result
    c.args.owner.place c.loop-entry.invariant.summed c.from-index.ensures _ c.in_err-method.ensures.err)
