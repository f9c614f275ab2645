use Rattle.std.proofs.Common.{◌≡◌, map, take}
use Rattle.std.specs.Prelude.{slice_index}
use Rattle.program_types.specs.View.{try}
use Rattle.code_align.specs.Aligned.{moved_try}
use Rattle.code_align.proofs.moving.moved_tries.Given as goal

abbrev pub invariant-loop-i : goal.invariant-loop-i
invariant-loop-i l = map try l.all.items ≡ map (moved_try (slice_index l.numbers)) (take l.i (map try l.tries))
