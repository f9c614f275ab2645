use Rattle.std.proofs.Common.{List, map}
use Rattle.file_classes.specs.inner.Reading.{field_entry}
use Rattle.file_put.specs.inner.Data.{FieldRanks}
use Rattle.program_types.specs.Content.{Descriptor, Member}
use Rattle.tables_names.specs.Closure.{Five, NameRanks}
use Rattle.file_strip.specs.inner.Members.{IsCarriedRun}
use Rattle.file_strip.proofs.MemberLaws.{FieldsTo}
use Rattle.file_strip.proofs.datas.put_fields.Given as goal

abbrev pub invariant-loop-entry : goal.invariant-loop-entry
invariant-loop-entry l =
    (s : Five) (class : Descriptor) (ms : List Member) → IsCarriedRun l.numbers.fields (FieldRanks (NameRanks s) class) (map field_entry l.entries) ms
    → FieldsTo l.numbers.fields s class (map field_entry l.entries) ms l.fn.out.items l.out.items l.entry-index l.index l.last
