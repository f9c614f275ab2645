use Rattle.std.proofs.Common.{map}
use Rattle.program_types.specs.View.{try}
use Rattle.tables_names.specs.Closure.{NameRanks}
use Rattle.code_write.specs.inner.Writing.{IsDistinct}
use Rattle.code_write.proofs.handlers.distinct_of.Given as goal

abbrev pub invariant-loop-i : goal.invariant-loop-i
invariant-loop-i l = IsDistinct (NameRanks l.ranks) l.starts (map try l.tries) l.i (map (λ v. v.items) l.handlers.keys) l.numbers.items
