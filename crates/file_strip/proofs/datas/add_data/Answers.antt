use Rattle.std.proofs.Common.{arith}
use Rattle.std.proofs.lemmas.List.{length-map}
use Rattle.file_classes.specs.inner.Reading.{field_entry, method_entry}
use Rattle.file_put.proofs.ClassDataLaws.{data_adds}
use Rattle.file_strip.proofs.datas.add_data.Goals as goal

pub overflow_cast-place : goal.overflow_cast-place
overflow_cast-place c = omega (arith, c.requires.members.3, c.args.out.now.ok.0)

pub put_members-requires-clause-members : goal.put_members-requires-clause-members
put_members-requires-clause-members c = let m = c.requires.members in (m.0, m.1, m.2, omega (arith, m.3))

pub returns-clause-ok : goal.returns-clause-ok
returns-clause-ok c = λ s x m.
    let all = c.args.all.now in
    let f1 = length-map all.statics.items field_entry in let n1 = m.statics.count in
    let f2 = length-map all.instances.items field_entry in let n2 = m.instances.count in
    let f3 = length-map all.directs.items method_entry in let n3 = m.directs.count in
    let f4 = length-map all.virtuals.items method_entry in let n4 = m.virtuals.count in
    data_adds s c.args.out.now.items _ x c.args.codes.now _ (omega (arith, f1, n1, f2, n2, f3, n3, f4, n4)) (omega (arith, c.len-place.ensures, c.args.out.now.ok.0)) (c.in_ok-put_members.ensures.ok s x m)
