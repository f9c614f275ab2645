use Rattle.std.proofs.Common.{List, map, take_all, arith, subst}
use Rattle.std.specs.List.{flat_map}
use Rattle.tables_names.specs.Closure.{HasShorty}
use Rattle.program_types.specs.View as view
use Rattle.program_types.specs.declared.class.Class.{Class}
use Rattle.tables_names.specs.Noted.{AddsNoted}
use Rattle.file_needed.specs.inner.Bodies.{named_in_class}
use Rattle.tables_names.proofs.NotedLemmas.{notes_none}
use Rattle.file_needed.proofs.Steps.{notes_more, flat_kept}
use Rattle.file_needed.proofs.classes.note_classes.Goals as goal

pub loop-class-init : goal.loop-class-init
loop-class-init c = notes_none c.args.noted.now

pub note_class-requires : goal.note_class-requires
note_class-requires c = flat_kept HasShorty named_in_class view.class c.args.classes.now c.loop-class.class-index _ c.loop-class-test.true c.requires

pub loop-class-preserved : goal.loop-class-preserved
loop-class-preserved c = notes_more named_in_class view.class _ _ _ c.args.classes.now c.loop-class.class-index _ c.loop-class-test.true c.loop-class.invariant c.in_ok-note_class.ensures.added

pub returns-clause-added : goal.returns-clause-added
returns-clause-added c =
    subst (λ (xs : List Class). AddsNoted c.args.noted.now c.loop-class.noted (flat_map named_in_class (map view.class xs))) (take_all c.loop-class.class-index c.args.classes.now (omega arith)) c.loop-class.invariant
