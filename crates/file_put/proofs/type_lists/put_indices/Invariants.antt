use Rattle.std.proofs.Common.{map, take}
use Rattle.program_types.specs.View as view
use Rattle.file_put.specs.inner.Lists.{AddsIndices}
use Rattle.file_put.proofs.type_lists.put_indices.Given as goal

abbrev pub invariant-loop-ty : goal.invariant-loop-ty
invariant-loop-ty l = AddsIndices l.ranks l.fn.out.items l.out.items (map view.desc (take l.ty-index l.types))
