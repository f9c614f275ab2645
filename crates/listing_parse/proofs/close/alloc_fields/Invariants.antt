use Rattle.std.proofs.Common.{◌≡◌, map, take}
use Rattle.listing_parse.proofs.close.alloc_fields.Given as goal

abbrev pub invariant-loop-i : goal.invariant-loop-i
invariant-loop-i l = l.fields.items ≡ map (λ g. g.field) (take l.i l.all)
