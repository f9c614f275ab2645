use Rattle.std.proofs.Common.{sym, map}
use Rattle.program_types.specs.View.{desc}
use Rattle.file_classes.specs.Classes.{InterfacesAt}
use Rattle.file_classes.proofs.interfaces.interfaces_at.Goals as goal
use Rattle.tables_rows.proofs.CachedLaws.{cached_more}

pub returns-in-Some-clause-found : goal.returns-in-Some-clause-found
returns-in-Some-clause-found c = c.requires.cached c.args.off c.in-Some.list.now (sym c.in-Some.ensures.value)

pub returns-clause-cached : goal.returns-clause-cached
returns-clause-cached c = cached_more (λ off list. InterfacesAt c.args.sections.now off (map desc list.now)) c.args.cached.now c.insert.new.self c.args.off c.in-Some-2.list c.requires.cached (rw c.in-Some-2.is at c.in_ok-list.ensures.found) c.in_ok-insert.ensures.updates
