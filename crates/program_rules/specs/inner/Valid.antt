-- Beside Valid.antt: what no promise reaches.
use Rattle.std.specs.List.{AllByRecursion}
use Rattle.program_types.specs.Content.{Insn, Code}
use Rattle.program_types.specs.Mentions.{names_of_insn}
use Rattle.program_rules.specs.Valid.{IsValidName}

-- What the instruction names, if anything, is such a name.
abbrev pub InsnIsNamed : Insn → Type 0
InsnIsNamed i = AllByRecursion IsValidName (names_of_insn i)

-- What each instruction of the code names is.
abbrev pub InsnsAreNamed : Code → Type 0
InsnsAreNamed c = AllByRecursion InsnIsNamed c.insns
