use Rattle.std.proofs.Common.{ℕ, ◌<◌, get_or, IsTrue}
use Rattle.dex_base.proofs.mutf8.are_single.Given as goal

abbrev pub invariant-loop-byte : goal.invariant-loop-byte
invariant-loop-byte l = IsTrue l.single → (k : ℕ) → k < l.byte-index → (0 < get_or l.bytes k 0) × (get_or l.bytes k 0 < 128)
