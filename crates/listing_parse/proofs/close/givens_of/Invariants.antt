use Rattle.std.proofs.Common.{◌≡◌, ◌++◌, map}
use Rattle.listing_parse.specs.inner.View.{given, held_static}
use Rattle.listing_parse.proofs.close.givens_of.Given as goal

abbrev pub invariant-loop-key : goal.invariant-loop-key
invariant-loop-key l = map given l.fields.items ++ map held_static l.key-iterator ≡ map held_static l.all.entries
