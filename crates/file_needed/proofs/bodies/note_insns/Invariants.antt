use Rattle.std.proofs.Common.{map, take}
use Rattle.std.specs.List.{flat_map}
use Rattle.program_types.specs.Mentions.{names_of_insn}
use Rattle.program_types.specs.View as view
use Rattle.tables_names.specs.Noted.{AddsNoted}
use Rattle.file_needed.proofs.bodies.note_insns.Given as goal

abbrev pub invariant-loop-insn : goal.invariant-loop-insn
invariant-loop-insn l = AddsNoted l.fn.noted l.noted (flat_map names_of_insn (map view.insn (take l.insn-index l.insns)))
