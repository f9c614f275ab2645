use Rattle.std.proofs.Common.{arith, ◌≡◌, ◌<◌, ◌/◌, length, min, sym, ap, ◌∙◌, nat_cmp, inl, inr}
use Rattle.std.proofs.lemmas.Bool.{cases_lt}
use Rattle.tables_rows.specs.inner.Halves.{halves}
use Rattle.tables_rows.proofs.HalvesLaws.{u16_at-halves}
use Rattle.dex_base.proofs.OrderLaws.{cmp_equal, cmp_unequal, cmp_end}
use Rattle.tables_rows.proofs.type_list.cmp_indexes.Goals as goal

pub returns-in_default : goal.returns-in_default
returns-in_default c =
    let i = c.loop-i.i in
    let xs = halves c.args.a.now in
    let ys = halves c.args.b.now in
    let a : i < length xs = omega (arith, c.loop-i-test.true, c.min-i-end.ensures, c.requires.a) in
    let b : i < length ys = omega (arith, c.loop-i-test.true, c.min-i-end.ensures, c.requires.b) in
    c.cmp.ensures
    ∙ cmp_unequal xs ys i c.u16_at.result c.u16_at-in-loop-i.result a b (c.u16_at.ensures ∙ u16_at-halves c.args.a.now i a) (c.u16_at-in-loop-i.ensures ∙ u16_at-halves c.args.b.now i b) (λ e. c.in_default.not-Equal (c.cmp.ensures ∙ e))
    ∙ c.loop-i.invariant

pub loop-i-preserved : goal.loop-i-preserved
loop-i-preserved c =
    let i = c.loop-i.i in
    let xs = halves c.args.a.now in
    let ys = halves c.args.b.now in
    let a : i < length xs = omega (arith, c.loop-i-test.true, c.min-i-end.ensures, c.requires.a) in
    let b : i < length ys = omega (arith, c.loop-i-test.true, c.min-i-end.ensures, c.requires.b) in
    cmp_equal xs ys i c.u16_at.result c.u16_at-in-loop-i.result a b (c.u16_at.ensures ∙ u16_at-halves c.args.a.now i a) (c.u16_at-in-loop-i.ensures ∙ u16_at-halves c.args.b.now i b) (sym c.cmp.ensures ∙ c.in-Equal.is)
    ∙ c.loop-i.invariant

pub returns : goal.returns
returns c =
    let xs = halves c.args.a.now in
    let ys = halves c.args.b.now in
    let m : length c.args.a.now / 2 ≡ length xs = omega (arith, c.requires.a) in
    let n : length c.args.b.now / 2 ≡ length ys = omega (arith, c.requires.b) in
    let e : c.loop-i.i ≡ min (length xs) (length ys) = omega (arith, c.loop-i-test.false, c.loop-i.auto.i-end, c.min-i-end.ensures, c.requires.a, c.requires.b) in
    c.cmp-2.ensures ∙ ap (λ k. nat_cmp k (length c.args.b.now / 2)) m ∙ ap (nat_cmp (length xs)) n
    ∙ sym (cmp_end xs ys c.loop-i.i (omega (arith, e)) (omega (arith, e)) (elim (cases_lt (length xs) (length ys)) [ inl l ↦ inl (omega (arith, l, e)) | inr g ↦ inr (omega (arith, g, e)) ]))
    ∙ c.loop-i.invariant
