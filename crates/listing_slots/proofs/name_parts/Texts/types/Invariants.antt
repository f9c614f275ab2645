use Rattle.std.proofs.Common.{◌≡◌, map, take}
use Rattle.program_types.specs.View.{desc}
use Rattle.listing_slots.proofs.name_parts.Texts.types.Given as goal

abbrev pub invariant-loop-ty : goal.invariant-loop-ty
invariant-loop-ty l = map desc l.all.items ≡ map desc (take l.ty-index l.types)
