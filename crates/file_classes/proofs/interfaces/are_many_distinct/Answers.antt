use Rattle.std.proofs.Common.{◌≡◌, Bool, map, refl, sym, subst, arith, inl, inr, true≢false}
use Rattle.std.proofs.lemmas.Bool.{cases_lt}
use Rattle.std.proofs.lemmas.List.{length-map}
use Rattle.std.proofs.lemmas.Slice.Eq.{bytes_eq-Decides}
use lib.Pointwise.{pointwise}
use lib.Dec.{eqb}
use Rattle.program_types.specs.View.{desc}
use Rattle.program_types.specs.declared.names.Desc.{Desc}
use Rattle.file_classes.specs.inner.Reading.{IsNotAmong}
use Rattle.file_classes.proofs.HeadLaws.{distinct_from}
use Rattle.file_classes.proofs.SeenLaws.{new_type, old_type, seen_more, held_before, came_now}
use Rattle.file_classes.proofs.interfaces.are_many_distinct.Goals as goal

-- what `==` of types computes
abbrev same : Desc → Desc → Bool
same x y = pointwise eqb (desc x) (desc y)

pub returns-then-not-branch : goal.returns-then-not-branch
returns-then-not-branch c = record {
  ok =
      let yes = held_before _ c.in_ok-insert.field-0 c.in_ok-insert.ensures.added c.if-not-branch.true in (
        λ f. absurd (true≢false (sym f)),
        λ distinct. absurd (old_type same (λ x y. bytes_eq-Decides (desc x) (desc y)) c.args.types.now c.loop-n.seen.keys c.loop-n.n _ c.loop-n.invariant.0 c.loop-n-test.true yes distinct),
      );
}

pub loop-n-preserved : goal.loop-n-preserved
loop-n-preserved c =
    let no = came_now _ c.in_ok-insert.field-0 c.in_ok-insert.ensures.added c.if-not-branch.false in
    let decides = λ (x y : Desc). bytes_eq-Decides (desc x) (desc y) in
    let types = c.args.types.now in
    let n = c.loop-n.n in (
      seen_more types c.loop-n.seen.keys _ n _ c.loop-n-test.true c.loop-n.invariant.0 (rw c.if-not-branch.false at c.in_ok-insert.ensures.keys),
      λ k less. elim (cases_lt k n) [
        | inl before ↦ c.loop-n.invariant.1 k before
        | inr last ↦ let e : n ≡ k = omega arith in subst (λ z. IsNotAmong (map desc types) z z) e (new_type same decides types c.loop-n.seen.keys n _ c.loop-n.invariant.0 c.loop-n-test.true no)
      ],
    )

pub returns : goal.returns
returns c = record {
  ok = (
    λ t. let l = length-map c.args.types.now desc in distinct_from (map desc c.args.types.now) c.loop-n.n (omega (arith, l, c.loop-n-test.false)) c.loop-n.invariant.1,
    λ d. refl,
  );
}
