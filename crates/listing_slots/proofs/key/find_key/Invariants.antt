use Rattle.std.proofs.Common.{◌≡◌, drop}
use Rattle.listing_slots.specs.Keys.{find_key}
use Rattle.listing_slots.proofs.key.find_key.Given as goal

abbrev pub invariant-loop-key : goal.invariant-loop-key
invariant-loop-key l = find_key l.keys l.text ≡ find_key (drop l.key-index l.keys) l.text
