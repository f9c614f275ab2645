use Rattle.std.proofs.Common.{map, sym, true≢false}
use Rattle.dex_base.specs.Descriptor.{IsClass}
use Rattle.program_types.specs.View.{desc}
use Rattle.file_classes.proofs.interfaces.are_classes.Goals as goal
use Rattle.dex_base.proofs.ListFacts.{all_get, map_at}

pub returns-then-not-is_class : goal.returns-then-not-is_class
returns-then-not-is_class c = (
  λ f. absurd (true≢false (sym f)),
  λ all. absurd (true≢false (sym (c.if-not-is_class.ensures.1 (all_get IsClass (map desc c.args.types.now) c.loop-ty.ty-index _ all (map_at desc c.args.types.now c.loop-ty.ty-index _ c.loop-ty-test.true))))),
)
