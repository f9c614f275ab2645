use Rattle.std.proofs.Common.{◌≡◌, ◌≤◌, ◌+◌, ◌∙◌, ◌++◌, ◌∷◌, [], ℕ, Bool, map, length, drop, arith, ap, sym, subst, if◌then◌else◌}
use Rattle.program_types.specs.View.{insn}
use Rattle.program_types.specs.Content.{Insn}
use Rattle.program_types.specs.Operands.{IsOperand}
use Rattle.program_types.specs.Sizes.{insn_units}
use Rattle.std.proofs.lemmas.List.{length-map}
use Rattle.code_write.proofs.SizeLaws.{insn-at, units-small}
use Rattle.code_align.specs.inner.Aligning.{is_odd, pads_from}
use Rattle.code_align.proofs.PadLaws.{pads-turn, after-most}
use Rattle.code_align.proofs.pads.pads_of.Goals as goal

pub after-at-requires-clause-units : goal.after-at-requires-clause-units
after-at-requires-clause-units c =
    let e = insn-at c.args.insns.now c.loop-k.k c.index-insns-k.result c.loop-k-test.true c.index-insns-k.is in
    units-small (length c.args.insns.now) (insn c.index-insns-k.result) (subst (λ (i : Insn). IsOperand (length c.args.insns.now) i) (sym e) (c.requires.operands c.loop-k.k c.loop-k-test.true))

pub loop-k-preserved : goal.loop-k-preserved
loop-k-preserved c =
    let e = insn-at c.args.insns.now c.loop-k.k c.index-insns-k.result c.loop-k-test.true c.index-insns-k.is in
    let i = insn c.index-insns-k.result in
    let at = c.loop-k.at in
    let u : insn_units (insn c.index-insns-k.result) ≤ 4294967296 =
    units-small (length c.args.insns.now) (insn c.index-insns-k.result) (subst (λ (j : Insn). IsOperand (length c.args.insns.now) j) (sym e) (c.requires.operands c.loop-k.k c.loop-k-test.true)) in
    let n = length-map c.args.insns.now insn in
    let l = c.loop-k-test.true in
    let b : c.after-at.result ≡ c.loop-k.at + (if is_odd c.loop-k.at (insn c.index-insns-k.result) then 1 else 0) + insn_units (insn c.index-insns-k.result) =
    c.after-at.ensures ∙ ap (λ (x : Bool). c.loop-k.at + (if x then 1 else 0) + insn_units (insn c.index-insns-k.result)) c.is_odd-odd.ensures in
    let v = c.loop-k.invariant.1 in
    let most = after-most (is_odd c.loop-k.at (insn c.index-insns-k.result)) c.loop-k.at c.after-at.result (insn_units (insn c.index-insns-k.result)) b u in (
      subst (λ (m : ℕ). c.push.new.self.items ++ pads_from m (drop (c.loop-k.k + 1) (map insn c.args.insns.now)) ≡ pads_from 0 (map insn c.args.insns.now)) (sym b)
          (pads-turn (map insn c.args.insns.now) c.loop-k.k c.loop-k.at (insn c.index-insns-k.result) c.loop-k.pads.items c.push.new.self.items (pads_from 0 (map insn c.args.insns.now)) (omega arith) e c.loop-k.invariant.0
          (c.in_ok-push.ensures.items ∙ ap (λ (x : Bool). c.loop-k.pads.items ++ x ∷ []) c.is_odd-odd.ensures)),
      omega arith,
    )
