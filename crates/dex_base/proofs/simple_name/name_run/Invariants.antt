use Rattle.std.proofs.Common.{ℕ, ◌-◌, List, length}
use Rattle.dex_base.specs.Grammar.{Begins, Each}
use Rattle.dex_base.specs.inner.Names.{SpellsPoint}
use Rattle.dex_base.proofs.simple_name.name_run.Given as goal

abbrev pub invariant-loop-length : goal.invariant-loop-length
invariant-loop-length l = (points : List ℕ) × Begins (Each SpellsPoint) l.units points l.at

abbrev pub decreases-loop-length : goal.decreases-loop-length
decreases-loop-length l = length l.units - l.at
