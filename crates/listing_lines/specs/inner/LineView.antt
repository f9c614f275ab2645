-- Lines in memory.
use Rattle.std.specs.Prelude.{option_map}
use Rattle.program_types.specs.View.{desc, str, member, method, value, insn}
use Rattle.listing_lines.specs.Lines as spec
use Rattle.listing_lines.specs.declared.line.Line.{Line}
use Rattle.listing_lines.specs.declared.line.Line.TheVariants as made

-- A line in memory, as its meaning.
abbrev pub line : Line → spec.Line
line made.First = spec.first_line
line (made.OpenClass d f) = spec.open_class (desc d) f
line made.EndClass = spec.end_class
line (made.Super d) = spec.super_line (desc d)
line (made.Implements d) = spec.implements_line (desc d)
line (made.Source s) = spec.source_line (str s)
line (made.Static m v) = spec.static_line (member m) (option_map value v)
line (made.Instance m) = spec.instance_line (member m)
line (made.Direct m) = spec.direct_line (method m)
line (made.Virtual m) = spec.virtual_line (method m)
line (made.OpenCode r i o) = spec.open_code r i o
line made.EndCode = spec.end_code
line (made.Insn i) = spec.insn_line (insn i)
line (made.Try f t) = spec.try_line f t
line (made.Catch d k) = spec.catch_line (desc d) k
line (made.CatchAll k) = spec.catch_all_line k
