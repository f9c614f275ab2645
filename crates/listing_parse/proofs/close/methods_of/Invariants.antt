use Rattle.std.proofs.Common.{◌≡◌, ◌++◌, map}
use Rattle.program_types.specs.View.{method}
use Rattle.listing_parse.specs.inner.View.{held_method}
use Rattle.listing_parse.proofs.close.methods_of.Given as goal

abbrev pub invariant-loop-key : goal.invariant-loop-key
invariant-loop-key l = map method l.methods.items ++ map held_method l.key-iterator ≡ map held_method l.all.entries
