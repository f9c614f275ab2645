use Rattle.std.proofs.Common.{List, ◌++◌, map, take, drop}
use Rattle.std.specs.List.{flat_map}
use Rattle.file_limits.specs.Wide.{bodies_in}
use Rattle.file_needed.specs.inner.Bodies.{named_in_body}
use Rattle.program_types.specs.Content.{Name}
use Rattle.program_types.specs.View as view
use Rattle.tables_names.specs.Noted.{AreRanks}
use Rattle.file_put.proofs.CodeLaws.{BodiesTo}
use Rattle.file_put.proofs.codes.put_bodies.Given as goal

-- so many bodies are put, and these are the indices of what the others name, and of what comes after
abbrev pub invariant-loop-method : goal.invariant-loop-method
invariant-loop-method l =
    record {
      put : BodiesTo l.ranks l.fn.out.items l.out.items (bodies_in (map view.method l.methods)) (bodies_in (map view.method (take l.method-index l.methods))) (bodies_in (map view.method (drop l.method-index l.methods)))
          l.fn.places.items l.places.items l.fn.items l.items;
      rest : (more : List Name) → AreRanks l.ranks (flat_map named_in_body (map view.method l.methods) ++ more) l.fn.indices → AreRanks l.ranks (flat_map named_in_body (map view.method (drop l.method-index l.methods)) ++ more) l.rest;
    }
