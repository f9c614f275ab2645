use Rattle.std.proofs.Common.{List, map}
use Rattle.file_classes.specs.inner.Reading.{method_entry}
use Rattle.file_put.specs.inner.Data.{MethodRanks}
use Rattle.program_types.specs.Content.{Descriptor, Method}
use Rattle.tables_names.specs.Closure.{Five, NameRanks}
use Rattle.file_strip.specs.inner.Members.{IsCarriedRun}
use Rattle.file_strip.proofs.MemberLaws.{MethodsTo}
use Rattle.file_strip.proofs.datas.put_methods.Given as goal

abbrev pub invariant-loop-i : goal.invariant-loop-i
invariant-loop-i l =
    (s : Five) (class : Descriptor) (ms : List Method) → IsCarriedRun l.numbers.methods (MethodRanks (NameRanks s) class) (map method_entry l.entries) ms
    → MethodsTo l.numbers.methods s class (map method_entry l.entries) ms l.codes l.fn.out.items l.out.items l.i l.index l.last
