use Rattle.std.proofs.Common.{◌≡◌, take}
use Rattle.std.specs.List.{fold, flat_map}
use Rattle.program_types.specs.Hashing.{part_input}
use Rattle.program_types.specs.declared.names.Desc.{Desc}
use Rattle.program_types.proofs.hashing.hash_parts.Given as goal

abbrev pub invariant-loop-part : goal.invariant-loop-part
invariant-loop-part g l = l.state ≡ fold g.H.Hasher.write l.initial.state (flat_map (λ (d : Desc). part_input d.text.units.now) (take l.part-index l.parts))
