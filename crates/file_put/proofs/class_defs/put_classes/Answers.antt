use Rattle.std.proofs.Common.{map, arith}
use Rattle.std.proofs.lemmas.List.{length-map}
use Rattle.file_put.proofs.ClassRowLaws.{seated_all, seated_more}
use Rattle.file_put.proofs.class_defs.put_classes.Goals as goal
use Rattle.dex_base.proofs.ListFacts.{map_at}
use Rattle.program_types.specs.View as view

pub put_class-requires-clause-held : goal.put_class-requires-clause-held
put_class-requires-clause-held c = c.requires.held c.loop-i.i _ (map_at view.class c.args.classes.now c.loop-i.i _ c.loop-i-test.true)

pub loop-i-preserved : goal.loop-i-preserved
loop-i-preserved c =
    seated_more c.args.ranks.now _ _ _ (map view.class c.args.classes.now) c.args.lists.now c.args.datas.now c.args.arrays.now c.loop-i.i _ (map_at view.class c.args.classes.now c.loop-i.i _ c.loop-i-test.true) c.loop-i.invariant c.in_ok-put_class.ensures.ok

pub returns-clause-ok : goal.returns-clause-ok
returns-clause-ok c =
    let same = length-map c.args.classes.now view.class in
    seated_all c.args.ranks.now _ _ (map view.class c.args.classes.now) c.args.lists.now c.args.datas.now c.args.arrays.now c.loop-i.i (omega (arith, same, c.loop-i-test.false)) c.loop-i.invariant
