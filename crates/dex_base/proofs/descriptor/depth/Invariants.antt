use Rattle.std.proofs.Common.{◌≡◌, take, replicate}
use Rattle.dex_base.proofs.descriptor.depth.Given as goal

abbrev pub invariant-loop-unit : goal.invariant-loop-unit
invariant-loop-unit l = record { same : l.n ≡ l.unit-index; front : take l.unit-index l.units ≡ replicate l.unit-index 91 }
