use Rattle.std.proofs.Common.{map, take}
use Rattle.dex_base.specs.Grammar.{Appends, Each}
use Rattle.file_put.specs.inner.Rows.{SpellsFieldRow}
use Rattle.file_put.proofs.PartLaws.{field_of}
use Rattle.file_put.proofs.field_ids.put_fields.Given as goal

abbrev pub invariant-loop-field : goal.invariant-loop-field
invariant-loop-field l = Appends (Each (SpellsFieldRow l.ranks)) l.fn.rows.items l.rows.items (map field_of (take l.field-index l.ranks.fields))
