use Rattle.std.proofs.Common.{ℕ, List}
use Rattle.dex_base.specs.Grammar.{Begins, Each}
use Rattle.dex_base.specs.inner.Names.{SpellsPoint}
use Rattle.dex_base.proofs.simple_name.low_ones.Given as goal

abbrev pub invariant-loop-at : goal.invariant-loop-at
invariant-loop-at l = (points : List ℕ) × Begins (Each SpellsPoint) l.units points l.at
