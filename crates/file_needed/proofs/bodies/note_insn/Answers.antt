use Rattle.std.proofs.Common.{List, subst}
use Rattle.program_types.specs.Content.{Name}
use Rattle.tables_names.specs.Noted.{AddsNoted}
use Rattle.tables_names.proofs.NotedLemmas.{notes_none}
use Rattle.file_needed.proofs.Steps.{both_ok}
use Rattle.file_needed.proofs.bodies.note_insn.Goals as goal

pub returns-in-Some-clause-added : goal.returns-in-Some-clause-added
returns-in-Some-clause-added c =
    both_ok c.add_name.result (λ added noted. subst (λ (names : List Name). AddsNoted c.args.noted.now c.add_name.new.self names) c.in-Some.ensures (record { added = added; noted = noted })) c.add_name.ensures.added c.add_name.ensures.noted

pub returns-in-None-clause-added : goal.returns-in-None-clause-added
returns-in-None-clause-added c = subst (λ (names : List Name). AddsNoted c.args.noted.now c.args.noted.now names) c.in-None.ensures (notes_none c.args.noted.now)
