use Rattle.std.proofs.Common.{arith}
use Rattle.std.proofs.lemmas.List.{length-map}
use Rattle.program_types.specs.View as view
use Rattle.file_put.proofs.ClassDataLaws.{data_adds, data_bound}
use Rattle.file_put.proofs.class_data.add_data.Goals as goal

pub returns-clause-ok : goal.returns-clause-ok
returns-clause-ok c =
    let class = c.args.class.now in
    let e1 = length-map class.statics.now view.member in
    let e2 = length-map class.instances.now view.member in
    let e3 = length-map class.directs.now view.method in
    let e4 = length-map class.virtuals.now view.method in
    data_adds c.args.ranks.now c.args.out.now.items _ (view.class class) c.args.codes.now _ (omega (arith, e1, e2, e3, e4)) (omega (arith, c.len-place.ensures)) c.in_ok-put_members.ensures.ok

pub returns-clause-bound : goal.returns-clause-bound
returns-clause-bound c = data_bound c.args.ranks.now c.args.out.now.items _ _ c.in_ok-put_members.ensures.ok
