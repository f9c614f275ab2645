use Rattle.std.proofs.Common.{◌≡◌, ◌+◌, get_or, refl, sym, subst, ◌∙◌, true≢false, arith, inl, inr}
use Rattle.std.proofs.lemmas.Bool.{cases_lt}
use Rattle.tables_rows.proofs.ShortyLaws.{letters_are, letter_is}
use Rattle.tables_rows.proofs.proto_ids.is_shorty.Goals as goal
use Rattle.program_types.proofs.Letters.{letters, letter_at, length-letters}

pub returns-then-units-i : goal.returns-then-units-i
returns-then-units-i c =
    (λ f. absurd (true≢false (sym f)), λ is. absurd (c.if-units-i.true (letter_is c.args.text.units.now (letters c.args.params.now) _ c.loop-i.i is ∙ letter_at c.args.params.now c.loop-i.i _ c.loop-i-test.true ∙ sym c.letter-in-loop-i.ensures)))

pub loop-i-preserved : goal.loop-i-preserved
loop-i-preserved c = λ k lt. elim (cases_lt k c.loop-i.i) [
  | inl less ↦ c.loop-i.invariant k less
  | inr ge ↦ let e : c.loop-i.i ≡ k = omega (arith, lt, ge) in
      subst (λ n. get_or c.args.text.units.now (n + 1) 0 ≡ get_or (letters c.args.params.now) n 0) e (c.if-units-i.false ∙ c.letter-in-loop-i.ensures ∙ sym (letter_at c.args.params.now c.loop-i.i _ c.loop-i-test.true))
]

pub returns : goal.returns
returns c =
    let size = length-letters c.args.params.now in
    (λ _. letters_are c.args.text.units.now (letters c.args.params.now) _ (omega (arith, c.if-units-eq0.false)) (omega (arith, size, c.if-units-eq0.false, c.if-units-params.false)) (c.if-units-letter.false ∙ c.letter.ensures) (λ k lt. c.loop-i.invariant k (omega (arith, lt, size, c.loop-i-test.false))), λ _. refl)
