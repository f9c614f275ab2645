use Rattle.std.proofs.Common.{map, take}
use Rattle.file_layout.specs.Sections.{wide_all}
use Rattle.tables_names.specs.Keys.{key_of_proto}
use Rattle.file_limits.specs.inner.Sum.{IsSum}
use Rattle.file_limits.specs.Wide.{wide_proto}
use Rattle.file_limits.proofs.text_sizes.protos_size.Given as goal

abbrev pub invariant-loop-proto : goal.invariant-loop-proto
invariant-loop-proto l = IsSum l.sum (wide_all wide_proto (map key_of_proto (take l.proto-index l.protos)))
