use Rattle.std.proofs.Common.{◌∙◌, ap, ◌++◌}
use Rattle.program_types.specs.View.{value}
use Rattle.listing_print.specs.Operands.{operand_text, value_operands}
use Rattle.listing_print.proofs.TextLaws.{value_text}
use Rattle.listing_print.proofs.values.+put_value.Goals as goal

pub loop-each-preserved : goal.loop-each-preserved
loop-each-preserved t c =
    value_text c.args.out.now.items c.loop-each.out.items c.put_value.new.out.items c.in-Array.all.now c.loop-each.each-index c.each-item.result c.loop-each-test.true c.loop-each.invariant
    (c.in_ok-put_value-in-Array.ensures.ok ∙ ap (λ v. c.loop-each.out.items ++ operand_text (value_operands (value v))) c.each-item.is)
