use Rattle.std.proofs.Common.{map, take}
use Rattle.dex_base.specs.Grammar.{Appends, Each}
use Rattle.file_put.specs.inner.Rows.{SpellsMethodRow}
use Rattle.file_put.proofs.PartLaws.{method_of}
use Rattle.file_put.proofs.method_ids.put_methods.Given as goal

abbrev pub invariant-loop-method : goal.invariant-loop-method
invariant-loop-method l = Appends (Each (SpellsMethodRow l.ranks)) l.fn.rows.items l.rows.items (map method_of (take l.method-index l.ranks.methods))
