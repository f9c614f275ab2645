use Rattle.std.proofs.Common.{map, refl, sym, true≢false, ◌<◌, length, arith}
use Rattle.program_types.specs.View.{desc}
use Rattle.file_classes.proofs.HeadLaws.{not_among_more, among}
use Rattle.file_classes.proofs.interfaces.is_new.Goals as goal
use Rattle.dex_base.proofs.ListFacts.{map_at}

pub returns-then-desc_eq : goal.returns-then-desc_eq
returns-then-desc_eq c =
    let xs = c.args.types.now in
    let lt : c.loop-i.i < length xs = omega (arith, c.loop-i-test.true, c.requires) in (
      λ f. absurd (true≢false (sym f)),
      λ none. absurd (among (map desc xs) c.loop-i.i c.args.n _ _ c.loop-i-test.true (map_at desc xs c.loop-i.i _ lt) (map_at desc xs c.args.n _ c.requires) (c.if-desc_eq.ensures.0 refl) none),
    )

pub loop-i-preserved : goal.loop-i-preserved
loop-i-preserved c =
    let xs = c.args.types.now in
    let lt : c.loop-i.i < length xs = omega (arith, c.loop-i-test.true, c.requires) in
    not_among_more (map desc xs) c.loop-i.i c.args.n _ _ c.loop-i.invariant (map_at desc xs c.loop-i.i _ lt) (map_at desc xs c.args.n _ c.requires) (λ e. true≢false (sym (c.if-desc_eq.ensures.1 e)))
