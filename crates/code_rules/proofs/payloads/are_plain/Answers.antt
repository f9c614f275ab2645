use Rattle.std.proofs.Common.{rules, ◌≡◌, ◌∙◌, ap, arith, below_more, map, subst, sym}
use Rattle.std.proofs.lemmas.List.{get_or-map}
use Rattle.program_types.specs.Formed.{insn_at}
use Rattle.program_types.specs.View.{insn}
use Rattle.code_rules.specs.inner.Parts.{HasNoPayload}
use Rattle.code_rules.proofs.payloads.are_plain.Goals as goal

pub returns-then-not-is_plain : goal.returns-then-not-is_plain
returns-then-not-is_plain c =
    let xs = c.args.insns.now in
    let e : insn_at (map insn xs) c.loop-k.k ≡ insn c.index-insns-k.result = get_or-map insn xs c.loop-k.k c.index-insns-k.result _ (omega arith) ∙ ap insn (sym c.index-insns-k.is) in
    (λ h. cc, λ all. let t = c.is_plain.ensures.1 (subst HasNoPayload e (all c.loop-k.k (omega arith))) in cc)

pub loop-k-preserved : goal.loop-k-preserved
loop-k-preserved c =
    let xs = c.args.insns.now in
    let e : insn_at (map insn xs) c.loop-k.k ≡ insn c.index-insns-k.result = get_or-map insn xs c.loop-k.k c.index-insns-k.result _ (omega arith) ∙ ap insn (sym c.index-insns-k.is) in
    below_more _ _ c.loop-k.invariant (subst HasNoPayload (sym e) (c.is_plain.ensures.0 (search rules)))
