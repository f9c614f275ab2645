use Rattle.std.proofs.Common.{map}
use Rattle.dex_base.specs.Leb128.{Spells}
use Rattle.file_classes.specs.ClassData.{SpellsFieldEntry}
use Rattle.file_classes.specs.inner.Reading.{field_entry}
use Rattle.file_classes.proofs.TakingLaws.{Taken}
use Rattle.file_classes.proofs.class_data.take_fields.Given as goal

abbrev pub invariant-loop-turn : goal.invariant-loop-turn
invariant-loop-turn l = Taken (SpellsFieldEntry Spells) l.bytes l._turn (map field_entry l.all.items) l.left
