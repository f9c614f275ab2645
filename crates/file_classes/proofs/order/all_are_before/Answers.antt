use Rattle.std.proofs.Common.{ℕ, ◌<◌, refl, sym, ◌∙◌, true≢false, length, subst}
use Rattle.std.specs.Prelude.{slice_index}
use borrow.Author.Count.{below_more}
use Rattle.dex_container.specs.Layout.{size_of}
use Rattle.tables_rows.specs.inner.Halves.{halves}
use Rattle.tables_rows.proofs.HalvesLaws.{u16_at-halves}
use Rattle.file_classes.specs.ClassRows.{NoneDefines}
use Rattle.file_classes.proofs.HeadLaws.{undefined_same, index_at}
use Rattle.file_classes.proofs.order.all_are_before.Goals as goal

pub returns-then-not-is_undefined : goal.returns-then-not-is_undefined
returns-then-not-is_undefined c =
    let b = c.args.sections.now in
    let xs = halves c.args.types.now in
    let lt : c.loop-k.k < length xs = index_at c.args.types.now c.loop-k.k c.requires.even c.loop-k-test.true in
    let is = c.from.ensures ∙ c.u16_at.ensures ∙ u16_at-halves c.args.types.now c.loop-k.k lt in (
      λ f. absurd (true≢false (sym f)),
      λ all. absurd (true≢false (sym (c.if-not-is_undefined.ensures.1 (undefined_same b c.args.i (size_of b 5) (size_of b 5) _ _ refl (sym is) (all c.loop-k.k lt))))),
    )

pub loop-k-preserved : goal.loop-k-preserved
loop-k-preserved c =
    let b = c.args.sections.now in
    let xs = halves c.args.types.now in
    let lt : c.loop-k.k < length xs = index_at c.args.types.now c.loop-k.k c.requires.even c.loop-k-test.true in
    let is = c.from.ensures ∙ c.u16_at.ensures ∙ u16_at-halves c.args.types.now c.loop-k.k lt in
    below_more (λ (k : ℕ). NoneDefines b c.args.i (size_of b 5) (slice_index xs k)) c.loop-k.k c.loop-k.invariant (undefined_same b c.args.i (size_of b 5) (size_of b 5) _ _ refl is (c.if-not-is_undefined.ensures.0 refl))

pub is_undefined-requires-clause-within : goal.is_undefined-requires-clause-within
is_undefined-requires-clause-within c =
    let b = c.args.sections.now in
    let xs = halves c.args.types.now in
    let lt : c.loop-k.k < length xs = index_at c.args.types.now c.loop-k.k c.requires.even c.loop-k-test.true in
    let is = c.from.ensures ∙ c.u16_at.ensures ∙ u16_at-halves c.args.types.now c.loop-k.k lt in
    subst (λ (n : ℕ). n < size_of b 1) (sym is) (c.requires.within c.loop-k.k lt)
