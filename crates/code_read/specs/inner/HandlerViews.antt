-- A handler in memory, as its content.
use Rattle.std.specs.Prelude.{map}
use Rattle.program_types.specs.View.{catch}
use Rattle.code_read.specs.Handlers.{Handler}
use Rattle.code_read.specs.declared.handlers.Caught.{Caught}

-- its catches, and where all other exceptions go
abbrev pub handler : Caught → Handler
handler h = record { catches = map catch h.catches.now; all = h.all }
