use Rattle.std.proofs.Common.{◌≡◌, ◌≤◌, length, map, take}
use Rattle.std.specs.List.{flat_map}
use Rattle.program_types.specs.Mentions.{names_of_insn}
use Rattle.program_types.specs.View.{insn}
use Rattle.code_write.proofs.mentioned.mentions_in.Given as goal

-- at most one an instruction
abbrev pub invariant-loop-one : goal.invariant-loop-one
invariant-loop-one l = record { count : l.count ≡ length (flat_map names_of_insn (map insn (take l.one-index l.insns))); few : l.count ≤ l.one-index }
