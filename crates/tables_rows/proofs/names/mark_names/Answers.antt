use Rattle.std.proofs.Common.{arith, map}
use Rattle.program_types.specs.View.{str}
use Rattle.tables_rows.proofs.Marks.{mark_more, marks_all, here_is}
use Rattle.tables_rows.proofs.names.mark_names.Goals as goal

pub loop-string-preserved : goal.loop-string-preserved
loop-string-preserved c =
    rw c.in_ok-push.ensures.items (mark_more (map str c.args.strings.now) c.loop-string.names.items c.loop-string.string-index c.is_member_name.result _ c.loop-string.invariant (here_is c.args.strings.now c.loop-string.string-index _ c.loop-string-test.true) c.is_member_name.ensures)

pub returns : goal.returns
returns c = record { marks = marks_all c.args.strings.now c.loop-string.names.items c.loop-string.string-index (let ge = c.loop-string-test.false in omega (arith, ge)) (let le = c.loop-string.auto.string-index-end in omega (arith, le)) c.loop-string.invariant }
