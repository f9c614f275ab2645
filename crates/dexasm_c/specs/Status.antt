-- The status numbers of a call: 0, 1 and 4 are the command's exit status, 5 is one that the command cannot have.
use Rattle.std.specs.Prelude.{ℕ}
use Rattle.dexasm_c.specs.declared.ending.Ending.{Ending}
use Rattle.dexasm_c.specs.declared.ending.Ending.TheVariants.{Answered, Refused, Memory, TooSmall}

-- the number of a status
abbrev pub status_of : Ending → ℕ
status_of Answered = 0
status_of Refused = 1
status_of Memory = 4
status_of TooSmall = 5
