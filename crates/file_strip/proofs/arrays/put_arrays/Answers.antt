use Rattle.std.proofs.Common.{subst, sym}
use Rattle.tables_names.specs.Needed.{needed}
use Rattle.file_limits.specs.inner.Wide.{array_values}
use Rattle.file_strip.specs.inner.Words.{AreClassWords}
use Rattle.file_strip.proofs.StaticsLaws.{class_statics}
use Rattle.file_strip.proofs.arrays.put_arrays.Goals as goal

pub place_arrays-requires-clause-arrays : goal.place_arrays-requires-clause-arrays
place_arrays-requires-clause-arrays c =
    let p = c.requires.kept.0 in
    let w = subst (AreClassWords c.args.sections.now 7) (sym c.deref.ensures.value) c.in_ok-offs.ensures.ok in
    (needed p, array_values p, class_statics c.args.sections.now c.args.numbers.now p c.requires.kept.1 c.deref.result.now w, c.requires.kept.2)

pub returns-clause-ok : goal.returns-clause-ok
returns-clause-ok c = λ p k.
    let w = subst (AreClassWords c.args.sections.now 7) (sym c.deref.ensures.value) c.in_ok-offs.ensures.ok in
    c.in_ok-place_arrays.ensures.ok (needed p) (array_values p) (class_statics c.args.sections.now c.args.numbers.now p k c.deref.result.now w)

pub returns-clause-once : goal.returns-clause-once
returns-clause-once c = λ p k.
    let w = subst (AreClassWords c.args.sections.now 7) (sym c.deref.ensures.value) c.in_ok-offs.ensures.ok in
    c.in_ok-place_arrays.ensures.once (needed p) (array_values p) k.marked.rise (class_statics c.args.sections.now c.args.numbers.now p k c.deref.result.now w)
