use Rattle.std.proofs.Common.{sym}
use Rattle.tables_rows.proofs.CachedLaws.{cached_more}
use Rattle.file_classes.specs.inner.Reading.{IsFound}
use Rattle.file_classes.proofs.keeping.Walk.code_at.Goals as goal

pub returns-in-Some-clause-ok : goal.returns-in-Some-clause-ok
returns-in-Some-clause-ok g c = c.requires.cached c.args.off c.in-Some.found.now (sym c.in-Some.ensures.value)

pub returns-clause-cached : goal.returns-clause-cached
returns-clause-cached g c =
    cached_more (IsFound g.K.Keep.code c.args.self.now.sections.now) c.args.cached.now c.insert.new.self c.args.off c.in_ok-found.found c.requires.cached c.in_ok-found.ensures.ok c.in_ok-insert.ensures.updates
