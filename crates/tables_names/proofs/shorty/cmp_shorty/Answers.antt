use Rattle.std.proofs.Common.{arith, ◌≡◌, ◌<◌, ◌+◌, length, min, sym, ap, ◌∙◌, nat_cmp, refl, inl, inr}
use Rattle.std.proofs.lemmas.Bool.{cases_lt}
use Rattle.program_types.specs.Shorty.{shorty}
use Rattle.program_types.specs.View.{str, proto}
use Rattle.dex_base.proofs.OrderLaws.{cmp_equal, cmp_unequal, cmp_end}
use Rattle.tables_names.proofs.shorty.cmp_shorty.Goals as goal
use Rattle.program_types.proofs.Letters.{length-letters}

pub returns-in_default : goal.returns-in_default
returns-in_default c =
    let i = c.loop-i.i in
    let xs = str c.args.text in
    let ys = shorty (proto c.args.name.now) in
    let a : i < length xs = omega (arith, c.loop-i-test.true, c.min-i-end.ensures) in
    let b : i < length ys = omega (arith, c.loop-i-test.true, c.min-i-end.ensures, length-letters c.args.name.now.params.now) in
    c.cmp.ensures ∙ cmp_unequal xs ys i _ c.letter_at.result a b refl c.letter_at.ensures (λ e. c.in_default.not-Equal (c.cmp.ensures ∙ e)) ∙ c.loop-i.invariant

pub loop-i-preserved : goal.loop-i-preserved
loop-i-preserved c =
    let i = c.loop-i.i in
    let xs = str c.args.text in
    let ys = shorty (proto c.args.name.now) in
    let a : i < length xs = omega (arith, c.loop-i-test.true, c.min-i-end.ensures) in
    let b : i < length ys = omega (arith, c.loop-i-test.true, c.min-i-end.ensures, length-letters c.args.name.now.params.now) in
    cmp_equal xs ys i _ c.letter_at.result a b refl c.letter_at.ensures (sym c.cmp.ensures ∙ c.in-Equal.is) ∙ c.loop-i.invariant

pub returns : goal.returns
returns c =
    let xs = str c.args.text in
    let params = c.args.name.now.params.now in
    let ys = shorty (proto c.args.name.now) in
    let n : length params + 1 ≡ length ys = omega (arith, length-letters params) in
    let e : c.loop-i.i ≡ min (length xs) (length ys) = omega (arith, c.loop-i-test.false, c.loop-i.auto.i-end, c.min-i-end.ensures, n) in
    c.cmp-2.ensures ∙ ap (nat_cmp (length xs)) n
    ∙ sym (cmp_end xs ys c.loop-i.i (omega (arith, e)) (omega (arith, e)) (elim (cases_lt (length xs) (length ys)) [ inl l ↦ inl (omega (arith, l, e)) | inr g ↦ inr (omega (arith, g, e)) ]))
    ∙ c.loop-i.invariant
