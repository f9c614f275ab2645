use Rattle.tables_names.specs.Closure.{NameRanks}
use Rattle.file_limits.proofs.BodyLaws.{no_class}
use Rattle.file_limits.proofs.RankLaws.{classes_more}
use Rattle.file_limits.proofs.bodies.lowest_of.Goals as goal
use Rattle.dex_base.proofs.ListFacts.{map_at}
use Rattle.program_types.specs.View as view

pub loop-i-init : goal.loop-i-init
loop-i-init c = no_class (NameRanks c.args.ranks.now)

pub class_number-requires-clause-ready : goal.class_number-requires-clause-ready
class_number-requires-clause-ready c = c.requires.ready c.loop-i.i _ (map_at view.class c.args.classes.now c.loop-i.i _ c.loop-i-test.true)

pub loop-i-preserved : goal.loop-i-preserved
loop-i-preserved c = classes_more (NameRanks c.args.ranks.now) c.args.classes.now c.loop-i.i _ _ _ _ c.loop-i-test.true c.earlier_of-lowest.ensures c.loop-i.invariant c.in_ok-number.ensures.ok
