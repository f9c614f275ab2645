use Rattle.std.proofs.Common.{arith}
use Rattle.tables_names.specs.Closure.{NameRanks}
use Rattle.code_write.proofs.PackedLaws.{packed-length}
use Rattle.code_write.proofs.code_laws.packed_is_short.Goals as goal

pub returns : goal.returns
returns c = λ ranks code bytes packed. let l = packed-length (NameRanks ranks) code bytes packed in (l.0, omega (arith, l.1))
