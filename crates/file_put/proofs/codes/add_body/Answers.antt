use Rattle.std.proofs.Common.{arith}
use Rattle.tables_names.specs.Closure.{NameRanks}
use Rattle.program_types.specs.View as view
use Rattle.file_put.proofs.OneBody.{packed_room}
use Rattle.file_put.proofs.CodeLaws.{body_used}
use Rattle.file_put.proofs.codes.add_body.Goals as goal

pub put_aligned-requires-clause-some : goal.put_aligned-requires-clause-some
put_aligned-requires-clause-some c = (packed_room (NameRanks c.args.ranks.now) (view.code c.in-Some.code.now) c.in_ok-item-in-Some.item.items c.in_ok-item-in-Some.ensures.ok).0

pub put_aligned-requires-clause-room : goal.put_aligned-requires-clause-room
put_aligned-requires-clause-room c =
    let r = (packed_room (NameRanks c.args.ranks.now) (view.code c.in-Some.code.now) c.in_ok-item-in-Some.item.items c.in_ok-item-in-Some.ensures.ok).1 in
    let room = rw c.in-Some.is at c.requires.room in
    omega (arith, r, room)

pub returns-in_ok-put_aligned-in-Some-clause-ok : goal.returns-in_ok-put_aligned-in-Some-clause-ok
returns-in_ok-put_aligned-in-Some-clause-ok c = rw c.in-Some.is (body_used c.args.ranks.now _ _ _ _ (view.code c.in-Some.code.now) _ _ (rw c.in-Some.is at c.requires.can) (rw c.deref.ensures.value at c.are_bytes.ensures.each) c.in_ok-item-in-Some.ensures.ok c.in_ok-put_aligned-in-Some.ensures.ok)
