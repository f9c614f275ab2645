-- Rules that all numbers below a bound keep.
use Rattle.std.specs.Prelude.{ℕ}
use Rattle.dex_base.specs.FirstFault.{AllBelow}

-- each number below n keeps a rule
abbrev pub AllHold : (ℕ → Type 0) → ℕ → Type 0
AllHold P n = AllBelow n P
