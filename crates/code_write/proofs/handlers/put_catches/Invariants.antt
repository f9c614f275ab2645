use Rattle.std.proofs.Common.{map, take}
use Rattle.dex_base.specs.Grammar.{Appends, Each}
use Rattle.program_types.specs.View.{catch}
use Rattle.tables_names.specs.Closure.{NameRanks}
use Rattle.code_write.specs.inner.Packs.{PacksCatch}
use Rattle.code_write.proofs.handlers.put_catches.Given as goal

abbrev pub invariant-loop-one : goal.invariant-loop-one
invariant-loop-one l = Appends (Each (PacksCatch (NameRanks l.ranks) l.starts)) l.fn.out.items l.out.items (take l.one-index (map catch l.catches))
