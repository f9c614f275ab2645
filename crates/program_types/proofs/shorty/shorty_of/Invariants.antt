use Rattle.std.proofs.Common.{◌≡◌, ◌∷◌, map, take}
use Rattle.program_types.specs.View.{desc}
use Rattle.program_types.specs.Shorty.{letter_of}
use Rattle.program_types.proofs.shorty.shorty_of.Given as goal

abbrev pub invariant-loop-param : goal.invariant-loop-param
invariant-loop-param l = l.letters.items ≡ map letter_of (desc l.ret ∷ map desc (take l.param-index l.params))
