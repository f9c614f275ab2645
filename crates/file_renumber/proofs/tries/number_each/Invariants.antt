use Rattle.std.proofs.Common.{map}
use Rattle.tables_names.specs.Closure.{NameRanks}
use Rattle.code_write.specs.inner.Writing.{IsDistinct}
use Rattle.file_renumber.specs.inner.TryWalks.{CarriedList, AreKnown}
use Rattle.file_renumber.proofs.tries.number_each.Given as goal

abbrev pub invariant-loop-i : goal.invariant-loop-i
invariant-loop-i l = record {
  distinct : (x : CarriedList l.numbers l.item l.offsets) → IsDistinct (NameRanks x.all.names) x.all.starts x.all.tries l.i (map (λ v. v.items) l.handlers.keys) l.all.items;
  known : AreKnown l.numbers l.item.list.now l.offsets l.known (map (λ v. v.items) l.handlers.keys);
}
