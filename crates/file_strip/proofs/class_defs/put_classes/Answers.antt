use Rattle.std.proofs.Common.{arith}
use Rattle.tables_names.specs.Needed.{needed}
use Rattle.file_put.proofs.ClassRowLaws.{seated_all}
use Rattle.file_strip.proofs.ClassRowLaws.{seated_start, seated_next}
use Rattle.file_strip.proofs.class_defs.put_classes.Goals as goal

pub loop-i-init : goal.loop-i-init
loop-i-init c = λ p k. seated_start p c.args.rows.now.items

pub loop-i-preserved : goal.loop-i-preserved
loop-i-preserved c = λ p k. let n = k.classes.count in seated_next p c.args.rows.now.items _ _ c.args.lists.now c.args.datas.now c.args.arrays.now c.loop-i.i (omega (arith, n, c.loop-i-test.true, c.class_count-i-end.ensures)) (c.loop-i.invariant p k) (c.in_ok-put_class.ensures.ok p k)

pub returns-clause-ok : goal.returns-clause-ok
returns-clause-ok c = λ p k. let n = k.classes.count in seated_all (needed p) c.args.rows.now.items _ p c.args.lists.now c.args.datas.now c.args.arrays.now c.loop-i.i (omega (arith, n, c.loop-i-test.false, c.class_count-i-end.ensures)) (c.loop-i.invariant p k)
