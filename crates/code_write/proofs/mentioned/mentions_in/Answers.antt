use Rattle.std.proofs.Common.{List, length, get_or, ap, ◌∙◌, arith, map, take, take_all, length-append}
use Rattle.std.specs.List.{flat_map}
use Rattle.program_types.specs.Mentions.{names_of_insn}
use Rattle.program_types.specs.View.{insn}
use Rattle.program_types.specs.declared.insn.Insn.{Insn}
use Rattle.code_write.proofs.MentionLaws.{names_more}
use Rattle.code_write.proofs.mentioned.mentions_in.Goals as goal

pub loop-one-preserved : goal.loop-one-preserved
loop-one-preserved c =
    let xs = c.args.insns.now in
    let k = c.loop-one.one-index in
    let more = ap length (names_more xs k c.one-item.result (omega arith)) in
    let sum = length-append (flat_map names_of_insn (map insn (take k xs))) (names_of_insn (insn (get_or xs k c.one-item.result))) in
    let own = ap (λ (x : Insn). length (names_of_insn (insn x))) c.one-item.is in
    record { count = omega (arith, c.loop-one.invariant.count, more, sum, own, c.names_in-count.ensures.count); few = omega (arith, c.loop-one.invariant.few, c.names_in-count.ensures.few) }

pub returns : goal.returns
returns c =
    c.loop-one.invariant.count ∙ ap (λ (xs : List Insn). length (flat_map names_of_insn (map insn xs))) (take_all c.loop-one.one-index c.args.insns.now (omega arith))
