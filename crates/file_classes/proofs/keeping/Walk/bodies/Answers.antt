use Rattle.dex_base.proofs.ListFacts.{passed}
use Rattle.file_classes.specs.ClassFaults.{BodyHolds, BodyFails}
use Rattle.file_classes.proofs.MethodLaws.{directs_break, virtuals_break, class_kept}
use Rattle.file_classes.proofs.keeping.Walk.bodies.Goals as goal

pub returns-in_err-directs-clause-err : goal.returns-in_err-directs-clause-err
returns-in_err-directs-clause-err g c =
    passed _ _ _ c.from_residual.ensures.1 (λ ne. directs_break c.args.self.now.sections.now c.framed.ensures c.args.i c.args.head c.requires.head BodyHolds BodyFails _ (c.in_err-directs.ensures.err ne))

pub returns-in_err-virtuals-clause-err : goal.returns-in_err-virtuals-clause-err
returns-in_err-virtuals-clause-err g c =
    passed _ _ _ c.from_residual-in_err-virtuals.ensures.1 (λ ne. virtuals_break c.args.self.now.sections.now c.framed.ensures c.args.i c.args.head c.requires.head BodyHolds BodyFails _ c.in_ok-directs.ensures.ok.1.hold (c.in_err-virtuals.ensures.err ne))

pub returns-clause-hold : goal.returns-clause-hold
returns-clause-hold g c =
    (class_kept c.args.self.now.sections.now c.framed.ensures c.args.i c.args.head c.requires.head c.in_ok-directs.past c.in_ok-virtuals.later c.or.result
    c.in_ok-directs.ensures.past c.in_ok-virtuals.ensures.past c.or.ensures).0

pub returns-clause-past : goal.returns-clause-past
returns-clause-past g c =
    (class_kept c.args.self.now.sections.now c.framed.ensures c.args.i c.args.head c.requires.head c.in_ok-directs.past c.in_ok-virtuals.later c.or.result
    c.in_ok-directs.ensures.past c.in_ok-virtuals.ensures.past c.or.ensures).1
