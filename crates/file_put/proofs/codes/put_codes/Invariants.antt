use Rattle.std.proofs.Common.{◌++◌, map, take, drop}
use Rattle.std.specs.List.{flat_map}
use Rattle.file_limits.specs.Wide.{bodies_of}
use Rattle.file_limits.specs.inner.Wide.{body_values}
use Rattle.file_needed.specs.inner.Bodies.{defined_in, named_in_code}
use Rattle.program_types.specs.View as view
use Rattle.tables_names.specs.Noted.{AreRanks}
use Rattle.file_put.proofs.CodeLaws.{Bodies}
use Rattle.file_put.proofs.codes.put_codes.Given as goal

abbrev pub invariant-loop-class : goal.invariant-loop-class
invariant-loop-class l =
    record {
      put : Bodies l.ranks l.fn.out.items l.out.items (flat_map bodies_of (map view.class (take l.class-index l.class-items))) (flat_map bodies_of (map view.class (drop l.class-index l.class-items))) (body_values (map view.class l.class-items)) l.places.items l.items;
      rest : AreRanks l.ranks (named_in_code (map view.class (drop l.class-index l.class-items)) ++ defined_in (map view.class l.class-items)) l.rest;
    }
