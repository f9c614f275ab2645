use Rattle.std.proofs.Common.{map, take}
use Rattle.std.specs.List.{flat_map}
use Rattle.program_types.specs.Mentions.{names_of_insn}
use Rattle.program_types.specs.View.{insn}
use Rattle.tables_names.specs.Noted.{AreRanks}
use Rattle.code_write.proofs.mentioned.indices_of.Given as goal

abbrev pub invariant-loop-one : goal.invariant-loop-one
invariant-loop-one l = AreRanks l.ranks (flat_map names_of_insn (map insn (take l.one-index l.insns))) l.indices.items
