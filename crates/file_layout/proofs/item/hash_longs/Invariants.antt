use Rattle.std.proofs.Common.{◌≡◌}
use Rattle.std.specs.List.{fold}
use Rattle.file_layout.specs.inner.Hashing.{longs}
use Rattle.file_layout.proofs.item.hash_longs.Given as goal

abbrev pub invariant-loop-k : goal.invariant-loop-k
invariant-loop-k g l = l.state ≡ fold g.H.Hasher.write l.initial.state (longs l.bytes l.k)
