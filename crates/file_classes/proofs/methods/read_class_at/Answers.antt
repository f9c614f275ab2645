use Rattle.program_types.specs.View.{value}
use Rattle.std.proofs.Common.{map}
use Rattle.file_classes.proofs.MethodLaws.{class_spelled}
use Rattle.file_classes.proofs.methods.read_class_at.Goals as goal

pub returns-clause-ok : goal.returns-clause-ok
returns-clause-ok c =
    let d = c.in_ok-bodies.ensures.directs in
    let v = c.in_ok-bodies.ensures.virtuals in
    rw (c.into_bump_slice.ensures, c.into_bump_slice-2.ensures, ← d.2, ← v.2)
    (class_spelled c.args.sections.now c.framed.ensures c.args.i c.head_at-head.result c.head_at-head.ensures d.0 d.1 (map value c.statics_at.result.values.now) v.0 c.statics_at.ensures v.1)
