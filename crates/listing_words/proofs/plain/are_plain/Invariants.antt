use Rattle.std.proofs.Common.{ℕ, ◌<◌, get_or, IsTrue}
use Rattle.listing_words.specs.inner.Plain.{IsPlainFrom}
use Rattle.listing_words.proofs.plain.are_plain.Given as goal

abbrev pub invariant-loop-unit : goal.invariant-loop-unit
invariant-loop-unit l = IsTrue l.plain → (k : ℕ) → k < l.unit-index → IsPlainFrom l.least (get_or l.units k 0)
