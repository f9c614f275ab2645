use Rattle.std.proofs.Common.{◌∙◌, ap, ◌++◌}
use Rattle.program_types.specs.View.{insn}
use Rattle.listing_print.specs.Printed.{insn_text}
use Rattle.listing_print.proofs.TextLaws.{insn_more, insns_end, followed}
use Rattle.listing_print.proofs.blocks.put_insns.Goals as goal

pub loop-i-preserved : goal.loop-i-preserved
loop-i-preserved c = λ ns m.
    insn_more c.args.form ns c.args.out.now.items c.loop-i.out.items c.put_mark.new.out.items c.put_insn_line.new.out.items c.args.insns.now c.loop-i.i c.index-insns-i.result c.loop-i-test.true (c.loop-i.invariant ns m) (c.in_ok-put_mark.ensures.ok ns m)
    (c.in_ok-put_insn_line.ensures.ok ∙ ap (λ v. c.put_mark.new.out.items ++ insn_text c.args.form c.loop-i.i (insn v)) c.index-insns-i.is)

pub returns : goal.returns
returns c = record {
  ok = followed c.put_mark-2.result (λ e. λ ns m. insns_end c.args.form ns c.args.out.now.items c.loop-i.out.items c.put_mark-2.new.out.items c.args.insns.now c.loop-i.i c.loop-i-test.false (c.loop-i.invariant ns m) (e ns m)) c.put_mark-2.ensures.ok;
}
