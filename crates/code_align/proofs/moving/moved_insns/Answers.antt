use Rattle.std.proofs.Common.{◌∙◌, ◌++◌, ◌∷◌, [], map, length, arith, ap, sym, subst, true, false}
use Rattle.std.specs.Prelude.{slice_index}
use Rattle.program_types.specs.View.{insn}
use Rattle.program_types.specs.Content.{Insn}
use Rattle.program_types.specs.Content as made
use Rattle.program_types.specs.declared.insn.Insn.TheVariants as held
use Rattle.program_types.specs.Operands.{IsOperand}
use Rattle.std.proofs.lemmas.List.{length-map}
use Rattle.code_write.proofs.SizeLaws.{insn-at}
use Rattle.code_align.specs.Aligned.{moved_insn, with_nops}
use Rattle.code_align.proofs.MoveLaws.{insns-turn, one-more, two-more}
use Rattle.code_align.proofs.moving.moved_insns.Goals.{then-pads-k+in_ok-push, else-pads-k}
use Rattle.code_align.proofs.moving.moved_insns.Goals as goal

pub moved_insn-requires : goal.moved_insn-requires
moved_insn-requires c =
    let e = insn-at c.args.insns.now c.loop-k.k c.index-insns-k.result c.loop-k-test.true c.index-insns-k.is in
    record { operand = subst (λ (i : Insn). IsOperand (length c.args.numbers.now) i) (sym e) (c.requires.operands c.loop-k.k c.loop-k-test.true) }

pub loop-k-preserved : goal.loop-k-preserved
loop-k-preserved c =
    let e = insn-at c.args.insns.now c.loop-k.k c.index-insns-k.result c.loop-k-test.true c.index-insns-k.is in
    let n = length-map c.args.insns.now insn in
    let l = c.loop-k-test.true in let m = c.requires.count in
    let whole = map (moved_insn (slice_index c.args.numbers.now)) (with_nops c.args.pads.now (map insn c.args.insns.now)) in
    let moves = c.in_ok-moved_insn.ensures.ok in
    let is = c.in_ok-push-2.ensures.items in
    elim c.if-pads-k.branch [
      | then-pads-k+in_ok-push w ↦
          insns-turn (slice_index c.args.numbers.now) c.args.pads.now (map insn c.args.insns.now) c.loop-k.k true (insn c.index-insns-k.result) (map insn c.loop-k.all.items) (map insn c.push-in-loop-k.new.self.items) whole
          (omega arith) (omega arith) (sym w.if-pads-k.true) e c.loop-k.invariant
          (two-more c.loop-k.all.items w.push.new.self.items c.push-in-loop-k.new.self.items (held.I10x 0) c.in_ok-moved_insn.field-0 w.in_ok-push.ensures.items (rw w.all-is at is)
          ∙ ap (λ (j : Insn). map insn c.loop-k.all.items ++ made.I10x 0 ∷ j ∷ []) moves)
      | else-pads-k w ↦
          insns-turn (slice_index c.args.numbers.now) c.args.pads.now (map insn c.args.insns.now) c.loop-k.k false (insn c.index-insns-k.result) (map insn c.loop-k.all.items) (map insn c.push-in-loop-k.new.self.items) whole
          (omega arith) (omega arith) (sym w.if-pads-k.false) e c.loop-k.invariant
          (one-more c.loop-k.all.items c.push-in-loop-k.new.self.items c.in_ok-moved_insn.field-0 (rw w.all-is at is)
          ∙ ap (λ (j : Insn). map insn c.loop-k.all.items ++ j ∷ []) moves)
    ]
