use Rattle.std.proofs.Common.{◌≡◌, ◌++◌, take, drop}
use Rattle.listing_words.specs.inner.Names.{up_to, from}
use Rattle.listing_words.proofs.names.split_stop.Given as goal

abbrev pub invariant-loop-end : goal.invariant-loop-end
invariant-loop-end l = record {
  front : up_to l.stop l.units ≡ take l.end l.units ++ up_to l.stop (drop l.end l.units);
  back : from l.stop l.units ≡ from l.stop (drop l.end l.units);
}
