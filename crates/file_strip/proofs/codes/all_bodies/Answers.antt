use Rattle.std.proofs.Common.{Some, ap, sym, ◌∙◌, subst, arith}
use Rattle.std.proofs.lemmas.Option.{slice_get-get_or}
use Rattle.dex_base.specs.Fields.{AreBytes}
use Rattle.file_strip.proofs.GatherLaws.{all_pushed, class_pushed}
use Rattle.file_strip.proofs.codes.all_bodies.Goals as goal

pub loop-i-preserved : goal.loop-i-preserved
loop-i-preserved c = λ numbers p k short.
    let b = c.args.sections.now in
    let i = c.loop-i.i in
    let n = c.class_count-i-end.ensures in
    let are : AreBytes b = subst AreBytes c.bytes.ensures.value c.are_bytes.ensures.each in
    let at = slice_get-get_or c.args.members.now i c.index-members-i.result (omega (arith, n, c.requires.members.count, c.loop-i-test.true)) ∙ ap Some (sym c.index-members-i.is) in
    class_pushed b numbers p k i c.index-members-i.result _ _ are (omega (arith, n, c.loop-i-test.true)) (c.requires.members.each i c.index-members-i.result at) short c.in_ok-push_class.ensures.ok (c.loop-i.invariant numbers p k short)

pub returns-clause-ok : goal.returns-clause-ok
returns-clause-ok c = λ numbers p k short.
    all_pushed c.args.sections.now numbers p k c.loop-i.i c.loop-i.bodies.items (omega (arith, c.class_count-i-end.ensures, c.loop-i-test.false, c.loop-i.auto.i-end)) (c.loop-i.invariant numbers p k short)
