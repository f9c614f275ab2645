use Rattle.std.proofs.Common.{◌+◌, ◌-◌, ◌*◌, ◌≤◌, take, length, vec_len, vec_capacity}
use Rattle.dex_base.specs.Grammar.{Appends, Each}
use Rattle.dex_base.specs.Mutf8.{SpellsUnit, mutf8_length}
use Rattle.dex_base.proofs.mutf8.put_mutf8.Given as goal

abbrev pub invariant-loop-unit : goal.invariant-loop-unit
invariant-loop-unit l = record {
  put : Appends (Each SpellsUnit) l.initial.out.items l.out.items (take l.unit-index l.units);
  room : vec_len l.out + 3 * (length l.units - l.unit-index) + 1 ≤ vec_capacity l.out;
  short : vec_len l.out ≤ vec_len l.fn.out + 5 + mutf8_length (take l.unit-index l.units);
}
