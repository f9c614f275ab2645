use Rattle.file_classes.specs.inner.Places.{ArePlaces}
use Rattle.file_classes.proofs.places.read_places.Given as goal

abbrev pub invariant-loop-i : goal.invariant-loop-i
invariant-loop-i l = ArePlaces l.sections l.i l.first.items l.last.items
