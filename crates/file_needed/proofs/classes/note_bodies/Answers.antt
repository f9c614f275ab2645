use Rattle.std.proofs.Common.{List, map, take_all, arith, subst}
use Rattle.std.specs.List.{flat_map}
use Rattle.tables_names.specs.Closure.{HasShorty}
use Rattle.program_types.specs.View as view
use Rattle.program_types.specs.declared.class.Method.{Method}
use Rattle.tables_names.specs.Noted.{AddsNoted}
use Rattle.file_needed.specs.inner.Bodies.{named_in_body}
use Rattle.tables_names.proofs.NotedLemmas.{notes_none}
use Rattle.file_needed.proofs.Steps.{notes_more, flat_kept}
use Rattle.file_needed.proofs.classes.note_bodies.Goals as goal

pub loop-method-init : goal.loop-method-init
loop-method-init c = notes_none c.args.noted.now

pub note_body-requires : goal.note_body-requires
note_body-requires c = flat_kept HasShorty named_in_body view.method c.args.methods.now c.loop-method.method-index _ c.loop-method-test.true c.requires

pub loop-method-preserved : goal.loop-method-preserved
loop-method-preserved c = notes_more named_in_body view.method _ _ _ c.args.methods.now c.loop-method.method-index _ c.loop-method-test.true c.loop-method.invariant c.in_ok-note_body.ensures.added

pub returns-clause-added : goal.returns-clause-added
returns-clause-added c =
    subst (λ (xs : List Method). AddsNoted c.args.noted.now c.loop-method.noted (flat_map named_in_body (map view.method xs))) (take_all c.loop-method.method-index c.args.methods.now (omega arith)) c.loop-method.invariant
