use Rattle.std.proofs.Common.{map, take}
use Rattle.dex_base.specs.Grammar.{Appends, Each}
use Rattle.file_put.specs.inner.Rows.{SpellsTypeRow}
use Rattle.file_put.proofs.PartLaws.{type_of}
use Rattle.file_put.proofs.type_ids.put_types.Given as goal

abbrev pub invariant-loop-ty : goal.invariant-loop-ty
invariant-loop-ty l = Appends (Each (SpellsTypeRow l.ranks)) l.fn.rows.items l.rows.items (map type_of (take l.ty-index l.ranks.types))
