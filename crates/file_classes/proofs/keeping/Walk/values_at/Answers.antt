use Rattle.std.proofs.Common.{sym, arith}
use Rattle.tables_rows.specs.Names.{NameIsAt}
use Rattle.tables_rows.proofs.CachedLaws.{cached_more}
use Rattle.file_classes.specs.inner.Cached.{StandsOnce}
use Rattle.file_classes.proofs.CachedLaws.{array_fewer, array_above}
use Rattle.file_classes.proofs.keeping.Walk.values_at.Goals as goal

pub returns-then-count-most-clause-broken : goal.returns-then-count-most-clause-broken
returns-then-count-most-clause-broken g c =
    let a = c.requires.cached c.args.off c.in-Some.found.now (sym c.in-Some.ensures.value) in
    let n = c.count.ensures a.0 a.3 in
    let above = c.if-count-most.true in
    λ other. rw (c.at.ensures, c.from.ensures) (array_above (NameIsAt c.args.self.now.tables.now) c.args.self.now.sections.now c.args.off a.1 c.args.most a.0 a.2 (omega (arith, n, above)))

pub returns-in-Some-clause-ok : goal.returns-in-Some-clause-ok
returns-in-Some-clause-ok g c =
    let a = c.requires.cached c.args.off c.in-Some.found.now (sym c.in-Some.ensures.value) in
    let n = c.count.ensures a.0 a.3 in
    let few = c.if-count-most.false in
    (a.0, array_fewer (NameIsAt c.args.self.now.tables.now) c.args.self.now.sections.now c.args.off a.1 c.args.most a.0 a.2 (omega (arith, n, few)), a.3)

pub returns-clause-cached : goal.returns-clause-cached
returns-clause-cached g c =
    let a = c.in_ok-values.ensures.ok in
    cached_more (StandsOnce g.K.Keep.values (NameIsAt c.args.self.now.tables.now) c.args.self.now.sections.now) c.args.cached.now c.insert.new.self c.args.off c.in_ok-values.values c.requires.cached (a.0, c.args.most, a.1, a.2) c.in_ok-insert.ensures.updates
