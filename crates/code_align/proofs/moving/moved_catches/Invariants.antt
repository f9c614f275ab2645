use Rattle.std.proofs.Common.{◌≡◌, map, take}
use Rattle.std.specs.Prelude.{slice_index}
use Rattle.program_types.specs.View.{catch}
use Rattle.code_align.specs.Aligned.{moved_catch}
use Rattle.code_align.proofs.moving.moved_catches.Given as goal

abbrev pub invariant-loop-i : goal.invariant-loop-i
invariant-loop-i l = map catch l.all.items ≡ map (moved_catch (slice_index l.numbers)) (take l.i (map catch l.catches))
