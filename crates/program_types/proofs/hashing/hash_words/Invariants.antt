use Rattle.std.proofs.Common.{◌≡◌}
use Rattle.std.specs.List.{fold}
use Rattle.program_types.specs.Hashing.{words}
use Rattle.program_types.proofs.hashing.hash_words.Given as goal

abbrev pub invariant-loop-k : goal.invariant-loop-k
invariant-loop-k g l = l.state ≡ fold g.H.Hasher.write l.initial.state (words l.units l.k)
