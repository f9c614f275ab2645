use Rattle.std.proofs.Common.{◌≡◌, ℕ, ◌+◌, ◌++◌, [], ◌∷◌, get_or, sym, subst, ◌∙◌, arith}
use Rattle.dex_insn.proofs.StandingLaws.{stands-whole}
use Rattle.dex_insn.specs.RawInsns.{InsnStands}
use Rattle.program_types.specs.View.{insn}
use Rattle.tables_rows.specs.Names.{NameIsAt}
use Rattle.code_read.proofs.PlainLaws.{PlainRun, begun, turned, plain_all}
use Rattle.code_read.proofs.plain.insns_at.Goals as goal

pub loop-k-init : goal.loop-k-init
loop-k-init g c = record { run = ([], begun (NameIsAt c.args.tables.now) c.args.units.now c.args.starts.now c.args.registers, c.in_ok-found.ensures); within = omega arith }

pub overflow_add-at : goal.overflow_add-at
overflow_add-at g c =
    let s = c.in-Some.ensures in
    let l = (stands-whole c.args.units.now (get_or c.args.starts.now c.loop-k.k 0) s.0 s.1).1 in
    let e = s.3 in
    let h = c.from.ensures in
    omega (arith, l, e, h, c.if-from-at.false, c.requires.short)

pub loop-k-preserved : goal.loop-k-preserved
loop-k-preserved g c =
    let s = c.in-Some.ensures in
    let k = c.loop-k.k in
    let here : get_or c.args.starts.now k 0 ≡ c.loop-k.at = sym c.from.ensures ∙ c.if-from-at.false in
    let p = c.loop-k.invariant.run in
    let i = insn c.in-Some.seen.insn in
    let l = (stands-whole c.args.units.now (get_or c.args.starts.now k 0) s.0 s.1).1 in
    let e = s.3 in
    record {
      run = (
        p.0 ++ i ∷ [],
        subst (λ (n : ℕ). PlainRun (NameIsAt c.args.tables.now) c.args.units.now c.args.starts.now c.args.registers (p.0 ++ i ∷ []) (k + 1) (c.loop-k.at + n)) (sym e)
            (turned (NameIsAt c.args.tables.now) c.args.units.now c.args.starts.now c.args.registers p.0 k c.loop-k.at s.0 i p.1 c.loop-k-test.true here (subst (λ (x : ℕ). InsnStands c.args.units.now x s.0) here s.1) s.2),
        c.in_ok-add.ensures p.0 p.2,
      );
      within = omega (arith, l, e, here);
    }

pub returns : goal.returns
returns g c =
    let p = c.loop-k.invariant.run in
    record {
      ok = (p.0, plain_all (NameIsAt c.args.tables.now) c.args.units.now c.args.starts.now c.args.registers p.0 c.loop-k.k c.loop-k.at p.1 c.requires.short c.loop-k-test.false c.if-at-units.false, p.2);
    }
