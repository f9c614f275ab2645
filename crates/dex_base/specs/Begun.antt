-- The hasher that hashes begin with.
use Rattle.std.specs.Prelude.{ℕ}
use Rattle.std.specs.List.{fold}
use Rattle.std.specs.Hash as fed
use Rattle.std.specs.Hash.FoldHasher.{initial, write}
use Rattle.std.specs.declared.hash.FoldHasher.{FoldHasher}
use Rattle.dex_base.specs.declared.seed.Seed.{Seed}

-- the hasher of a seed, to which no unit of a key was fed yet
abbrev pub hasher_of : Seed → FoldHasher
hasher_of s = s.begun

-- the hasher that was fed a number
abbrev pub fed_with : ℕ → FoldHasher
fed_with number = fold write initial (fed.u64 number)
