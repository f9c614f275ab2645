use Rattle.std.proofs.Common.{◌≡◌, length}
use Rattle.dex_base.specs.Grammar.{Begins, Each}
use Rattle.dex_base.specs.Mutf8.{SpellsUnit}
use Rattle.dex_base.proofs.mutf8.read_each.Given as goal

abbrev pub invariant-loop : goal.invariant-loop
invariant-loop l = record {
  read : Begins (Each SpellsUnit) l.bytes l.units.items l.at;
  counted : length l.units.items ≡ l.counter;
}
