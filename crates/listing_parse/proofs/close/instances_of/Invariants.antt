use Rattle.std.proofs.Common.{◌≡◌, ◌++◌, map}
use Rattle.program_types.specs.View.{member}
use Rattle.listing_parse.specs.inner.View.{held_instance}
use Rattle.listing_parse.proofs.close.instances_of.Given as goal

abbrev pub invariant-loop-key : goal.invariant-loop-key
invariant-loop-key l = map member l.fields.items ++ map held_instance l.key-iterator ≡ map held_instance l.all.entries
