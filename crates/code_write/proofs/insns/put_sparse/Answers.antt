use Rattle.std.proofs.Common.{◌≡◌, ℕ, ℤ, List, length, sym, ap, ◌∙◌, ◌*◌, subst}
use Rattle.std.proofs.lemmas.Result.{on_ok_weaker}
use Rattle.dex_insn.specs.Raw as raw
use Rattle.dex_insn.specs.Written.{IsRaw}
use Rattle.tables_names.specs.Closure.{NameRanks, nothing}
use Rattle.program_types.specs.Formed.{insn_targets}
use Rattle.code_write.proofs.LowerLaws.{sparse-lowers, put-sparse}
use Rattle.code_write.proofs.insns.put_sparse.Goals as goal

pub distances-requires-clause-fits : goal.distances-requires-clause-fits
unfolding insn_targets
distances-requires-clause-fits c = c.requires.targets

pub put_insn-requires : goal.put_insn-requires
unfolding raw.raw
put_insn-requires c =
    let o = c.in_ok-offsets.offsets.items in
    let b = c.in_ok-keys.keys.items in
    let zs = c.in_ok-far.far.items in
    let l : length o ≡ 4 * length zs = c.in_ok-offsets.ensures.count ∙ ap (λ (x : List ℤ). 4 * length x) c.deref.ensures.value in
    let fits : IsRaw (raw.Sparse b o) = (sparse-lowers (NameRanks nothing) c.args.starts.now c.args.at (length c.args.starts.now) c.args.keys.now c.args.targets.now b o zs c.requires.operand c.in_ok-keys.ensures.ok c.in_ok-keys.ensures.count
    (c.in_ok-offsets.ensures.ok ∙ c.deref.ensures.value) l c.in_ok-far.ensures.count c.in_ok-far.ensures.ok).fits in
    subst (λ (x : List ℕ). IsRaw (raw.Sparse c.deref-2.result.now x)) (sym c.deref-3.ensures.value) (subst (λ (x : List ℕ). IsRaw (raw.Sparse x o)) (sym c.deref-2.ensures.value) fits)

pub returns-clause-ok : goal.returns-clause-ok
unfolding raw.raw
returns-clause-ok c =
    on_ok_weaker c.put_insn.result
    (λ n ranks.
    put-sparse (NameRanks ranks) c.args.starts.now c.args.at (length c.args.starts.now) c.args.keys.now c.args.targets.now _ _ c.in_ok-keys.keys.items c.deref-2.result.now c.in_ok-offsets.offsets.items c.deref-3.result.now c.in_ok-far.far.items c.deref.result.now
    c.requires.operand c.deref-2.ensures.value c.in_ok-keys.ensures.ok c.in_ok-keys.ensures.count c.deref-3.ensures.value c.in_ok-offsets.ensures.ok c.deref.ensures.value c.in_ok-offsets.ensures.count c.in_ok-far.ensures.count c.in_ok-far.ensures.ok n)
    c.put_insn.ensures.ok
