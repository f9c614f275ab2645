use Rattle.std.proofs.Common.{◌≡◌, ℕ, ℤ, List, length, ap, ◌∙◌, ◌*◌, ◌++◌, arith}
use mir.Val.{SFits}
use mir.Syntax.{w32}
use Rattle.std.proofs.lemmas.Int.{to_z-of_z}
use Rattle.std.proofs.lemmas.Result.{on_ok_weaker}
use Rattle.dex_insn.specs.Raw as raw
use Rattle.dex_insn.specs.Written.{written}
use Rattle.tables_names.specs.Closure.{NameRanks}
use Rattle.program_types.specs.Formed.{insn_targets}
use Rattle.code_write.proofs.LowerLaws.{put-packed}
use Rattle.code_write.proofs.insns.put_packed.Goals as goal

pub distances-requires-clause-fits : goal.distances-requires-clause-fits
unfolding insn_targets
distances-requires-clause-fits c = c.requires.targets

pub put_insn-requires : goal.put_insn-requires
unfolding raw.raw
put_insn-requires c =
    let o = c.requires.operand in
    let few = o.1 in
    let fits : SFits w32 c.args.first = o.0 in
    let l : length c.deref-2.result.now ≡ 4 * length c.args.targets.now =
    ap length c.deref-2.ensures.value ∙ c.in_ok-offsets.ensures.count ∙ ap (λ (zs : List ℤ). 4 * length zs) c.deref.ensures.value ∙ ap (λ (n : ℕ). 4 * n) c.in_ok-far.ensures.count in
    (simp to_z-of_z fits, omega arith, omega arith)

pub returns-clause-ok : goal.returns-clause-ok
unfolding raw.raw
returns-clause-ok c =
    let fits : SFits w32 c.args.first = c.requires.operand.0 in
    on_ok_weaker c.put_insn.result
    (λ n ranks.
    let e : c.put_insn.new.out.items ≡ c.args.out.now.items ++ written (raw.Packed c.args.first c.deref-2.result.now) = simp to_z-of_z at n in
    put-packed (NameRanks ranks) c.args.starts.now c.args.at (length c.args.starts.now) c.args.first c.args.targets.now _ _ c.in_ok-offsets.offsets.items c.deref-2.result.now c.in_ok-far.far.items c.deref.result.now
    c.requires.operand c.deref-2.ensures.value c.in_ok-offsets.ensures.ok c.deref.ensures.value c.in_ok-offsets.ensures.count c.in_ok-far.ensures.count c.in_ok-far.ensures.ok e)
    c.put_insn.ensures.ok
