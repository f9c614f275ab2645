use Rattle.std.proofs.Common.{◌≡◌, ◌<◌, ℕ, get_or, refl, arith, subst, inl, inr}
use Rattle.std.proofs.lemmas.Bool.{cases_lt}
use Rattle.program_types.specs.Formed.{try_at}
use Rattle.code_write.proofs.ItemPieces.{items-turn, items-end}
use Rattle.code_write.proofs.ListLaws.{all-from}
use Rattle.file_renumber.proofs.tries.put_items.Goals as goal

pub loop-i-preserved : goal.loop-i-preserved
loop-i-preserved c =
    let lt = c.loop-i-test.true in
    let m = c.requires.count in
    let i = c.loop-i.i in
    let near = c.if-offset-gt65535.false in
    record {
      done = λ ts x.
          let n = x.count in
          items-turn c.args.item.now.size c.args.starts.now ts c.args.offsets.now _ _ _ i _ (try_at ts i) (omega (arith, lt, n, m)) lt refl refl (c.in_ok-put_item.ensures.ok (try_at ts i) (x.each i (omega (arith, lt, m)))) (c.loop-i.invariant.done ts x);
      near = λ k l. elim (cases_lt k i) [
        | inl a ↦ c.loop-i.invariant.near k a
        | inr a ↦ let e : i ≡ k = omega (arith, a, l) in subst (λ (z : ℕ). get_or c.args.offsets.now z 0 < 65536) e (omega (arith, near))
      ];
    }

pub returns-clause-ok : goal.returns-clause-ok
returns-clause-ok c = λ ts x.
    let n = x.count in let m = c.requires.count in
    items-end c.args.item.now.size c.args.starts.now ts c.args.offsets.now _ _ c.loop-i.i (omega (arith, n, m)) (c.loop-i.invariant.done ts x)

pub returns-clause-near : goal.returns-clause-near
returns-clause-near c = all-from (λ (off : ℕ). off < 65536) c.args.offsets.now 0 (λ k l. c.loop-i.invariant.near k (omega (arith, l)))
