use Rattle.file_classes.proofs.PlaceLaws.{places_marked, places_passed}
use Rattle.file_classes.proofs.places.read_places.Goals as goal
use Rattle.file_classes.proofs.places.read_places.Goals.{then-ty-types, else-ty-types}

pub loop-i-preserved : goal.loop-i-preserved
loop-i-preserved c = elim c.if-ty-types.branch [
  | then-ty-types w ↦
      rw (w.first-is, w.last-is)
      (places_marked c.args.sections.now c.loop-i.i _ _ c.loop-i.first.items c.loop-i.last.items _ _ c.class_word-ty.ensures c.type_count-types.ensures w.if-ty-types.true w.mark.ensures.new w.mark.ensures.old w.mark.ensures.last c.loop-i.invariant)
  | else-ty-types w ↦
      rw (w.first-is, w.last-is)
      (places_passed c.args.sections.now c.loop-i.i _ _ c.loop-i.first.items c.loop-i.last.items c.class_word-ty.ensures c.type_count-types.ensures w.if-ty-types.false c.loop-i.invariant)
]
