use Rattle.std.proofs.Common.{◌≡◌, ℕ, length, rules, map, arith, subst}
use Rattle.std.proofs.lemmas.List.{length-map}
use Rattle.program_types.specs.View.{insn}
use Rattle.code_rules.proofs.OriginLaws.{AreSwitchesSoFar, origins-all, switches-none, switches-same, switches-more}
use Rattle.code_rules.proofs.origins.mark_switches.Goals as goal
use Rattle.code_rules.proofs.origins.mark_switches.Goals.{then-is_switch_of, else-is_switch_of}

pub loop-j-init : goal.loop-j-init
loop-j-init c =
    let m = length-map c.args.insns.now insn in
    switches-none (map insn c.args.insns.now) c.args.all.now (omega (arith, m, c.requires.count)) (λ k l. c.requires.own k (omega (arith, l, m)))

pub loop-j-preserved : goal.loop-j-preserved
loop-j-preserved c = elim c.if-is_switch_of.branch [
  | then-is_switch_of w ↦ rw w.all-is (switches-more _ _ _ _ c.loop-j.invariant (c.is_switch_of.ensures.0 (search rules)))
  | else-is_switch_of w ↦ rw w.all-is (switches-same _ _ _ _ c.reach_at-k.ensures c.loop-j.invariant (λ u. let t = c.is_switch_of.ensures.1 u in cc))
]

pub returns : goal.returns
returns c =
    let m = length-map c.args.insns.now insn in
    let e : c.loop-j.j ≡ length (map insn c.args.insns.now) = omega (arith, m) in
    origins-all (map insn c.args.insns.now) c.loop-j.all (subst (λ (k : ℕ). AreSwitchesSoFar (map insn c.args.insns.now) k c.loop-j.all) e c.loop-j.invariant)
