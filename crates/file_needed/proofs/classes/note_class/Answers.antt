use Rattle.std.proofs.Common.{map}
use Rattle.std.proofs.lemmas.Result.{on_ok_weaker}
use Rattle.std.specs.List.{flat_map}
use Rattle.tables_names.specs.Closure.{HasShorty}
use Rattle.program_types.specs.View as view
use Rattle.file_needed.specs.inner.Bodies.{named_in_body}
use Rattle.tables_names.proofs.NotedLemmas.{notes_both}
use Rattle.file_needed.proofs.classes.note_class.Goals as goal
use Rattle.dex_base.proofs.ListFacts.{all_front, all_back}

pub note_bodies-requires : goal.note_bodies-requires
note_bodies-requires c = all_front HasShorty (flat_map named_in_body (map view.method c.args.class.now.directs.now)) (flat_map named_in_body (map view.method c.args.class.now.virtuals.now)) c.requires

pub note_bodies-requires-2 : goal.note_bodies-requires-2
note_bodies-requires-2 c = all_back HasShorty (flat_map named_in_body (map view.method c.args.class.now.directs.now)) (flat_map named_in_body (map view.method c.args.class.now.virtuals.now)) c.requires

pub returns-clause-added : goal.returns-clause-added
returns-clause-added c =
    on_ok_weaker c.note_bodies-2.result
    (λ a. notes_both c.args.noted.now c.note_bodies.new.noted c.note_bodies-2.new.noted (flat_map named_in_body (map view.method c.args.class.now.directs.now)) (flat_map named_in_body (map view.method c.args.class.now.virtuals.now)) c.in_ok-note_bodies.ensures.added a)
    c.note_bodies-2.ensures.added
