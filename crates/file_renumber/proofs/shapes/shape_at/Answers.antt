use Rattle.std.proofs.Common.{◌∙◌, ap, sym, arith}
use Rattle.dex_insn.specs.Opcodes.{format_of}
use Rattle.file_renumber.specs.inner.Shapes.{shape_in}
use Rattle.file_renumber.proofs.FormLemmas.{of_payload, of_format}
use Rattle.file_renumber.proofs.ShapeLemmas.{unit_long, payload_first, no_payload_op, no_payload_zero, no_payload_far, op_is}
use Rattle.file_renumber.proofs.shapes.shape_at.Goals as goal
use Rattle.file_renumber.proofs.shapes.shape_at.Goals.{else-first-eq0-via-then-first-eq0+then-first-ne0+else-first-lt1024, else-first-eq0-via-then-first-eq0+else-first-ne0, else-first-eq0-via-else-first-eq0}

pub u16_at-first-requires : goal.u16_at-first-requires
u16_at-first-requires c = unit_long c.args.front.now c.requires.0 c.requires.1

pub returns-then-first-lt1024 : goal.returns-then-first-lt1024
returns-then-first-lt1024 c = λ r s. of_payload c.args.front.now r s (payload_first c.args.front.now _ c.u16_at-first.ensures c.if-first-eq0.true c.if-first-ne0.true c.if-first-lt1024.true)

pub returns : goal.returns
returns c = λ r s.
    let op = op_is c.args.front.now _ c.u16_at-first.ensures in
    let e = ap shape_in (c.format_of.ensures ∙ ap format_of op) in
    elim c.else-first-eq0.branch [
      | else-first-eq0-via-then-first-eq0+then-first-ne0+else-first-lt1024 w ↦ sym (c.shape_in.ensures ∙ e ∙ of_format c.args.front.now r s (no_payload_far c.args.front.now c.u16_at-first.result c.u16_at-first.ensures (omega arith) w.if-first-lt1024.false))
      | else-first-eq0-via-then-first-eq0+else-first-ne0 w ↦ sym (c.shape_in.ensures ∙ e ∙ of_format c.args.front.now r s (no_payload_zero c.args.front.now _ c.u16_at-first.ensures w.if-first-ne0.false))
      | else-first-eq0-via-else-first-eq0 w ↦ sym (c.shape_in.ensures ∙ e ∙ of_format c.args.front.now r s (no_payload_op c.args.front.now _ c.u16_at-first.ensures w.if-first-eq0.false))
    ]
