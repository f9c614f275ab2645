use Rattle.std.proofs.Common.{map, sym, subst, Option, ℕ}
use Rattle.tables_names.specs.Closure.{NameRanks}
use Rattle.program_types.specs.View as view
use Rattle.file_limits.specs.Limits.{codes_in, codes_of}
use Rattle.file_limits.specs.inner.Limits.{BodyIsReady}
use Rattle.file_limits.specs.inner.Lowest.{IsLowestBroken}
use Rattle.file_limits.proofs.BodyLaws.{both_least}
use Rattle.file_limits.proofs.bodies.class_number.Goals as goal
use Rattle.dex_base.proofs.ListFacts.{all_front, all_back}

pub methods_number-requires-clause-ready : goal.methods_number-requires-clause-ready
methods_number-requires-clause-ready c = all_front (BodyIsReady c.args.ranks.now) (codes_in (map view.method c.args.class.now.directs.now)) (codes_in (map view.method c.args.class.now.virtuals.now)) c.requires.ready

pub methods_number-requires-2-clause-ready : goal.methods_number-requires-2-clause-ready
methods_number-requires-2-clause-ready c = all_back (BodyIsReady c.args.ranks.now) (codes_in (map view.method c.args.class.now.directs.now)) (codes_in (map view.method c.args.class.now.virtuals.now)) c.requires.ready

pub returns-clause-ok : goal.returns-clause-ok
returns-clause-ok c =
    subst (λ (r : Option ℕ). IsLowestBroken (NameRanks c.args.ranks.now) (codes_of (view.class c.args.class.now)) r) (sym c.lower_of.ensures)
    (both_least (NameRanks c.args.ranks.now) (codes_in (map view.method c.args.class.now.directs.now)) (codes_in (map view.method c.args.class.now.virtuals.now)) _ _ c.in_ok-directs.ensures.ok c.in_ok-virtuals.ensures.ok)
