use Rattle.std.proofs.Common.{map, take}
use Rattle.file_layout.specs.Sections.{wide_all}
use Rattle.tables_names.specs.Keys.{key_of_str}
use Rattle.file_limits.specs.inner.Sum.{IsSum}
use Rattle.file_limits.specs.Wide.{wide_string}
use Rattle.file_limits.proofs.text_sizes.strings_size.Given as goal

abbrev pub invariant-loop-text : goal.invariant-loop-text
invariant-loop-text l = IsSum l.sum (wide_all wide_string (map key_of_str (take l.text-index l.texts)))
