use Rattle.std.proofs.Common.{◌≡◌, replicate}
use Rattle.file_classes.proofs.places.zeros.Given as goal

abbrev pub invariant-loop-turn : goal.invariant-loop-turn
invariant-loop-turn l = l.all.items ≡ replicate l._turn 0
