use Rattle.std.proofs.Common.{map}
use Rattle.dex_base.specs.Leb128.{Spells}
use Rattle.file_classes.specs.ClassData.{SpellsMethodEntry}
use Rattle.file_classes.specs.inner.Reading.{method_entry}
use Rattle.file_classes.proofs.TakingLaws.{Taken}
use Rattle.file_classes.proofs.class_data.take_methods.Given as goal

abbrev pub invariant-loop-turn : goal.invariant-loop-turn
invariant-loop-turn l = Taken (SpellsMethodEntry Spells) l.bytes l._turn (map method_entry l.all.items) l.left
