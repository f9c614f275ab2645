use Rattle.std.proofs.Common.{map, arith}
use Rattle.program_types.specs.View as view
use Rattle.file_put.proofs.RankedLists.{list_some}
use Rattle.file_put.proofs.ListLaws.{list_room, list_used}
use Rattle.file_put.proofs.type_lists.add_list.Goals as goal

pub list_bytes-requires-clause-short : goal.list_bytes-requires-clause-short
list_bytes-requires-clause-short c = let r = list_room c.args.types.now (omega arith) in omega (arith, r, c.requires.room)

pub put_aligned-requires-clause-some : goal.put_aligned-requires-clause-some
put_aligned-requires-clause-some c = list_some c.args.ranks.now c.in_ok-bytes.bytes.items (map view.desc c.args.types.now) c.in_ok-bytes.ensures.ok

pub put_aligned-requires-clause-room : goal.put_aligned-requires-clause-room
put_aligned-requires-clause-room c = let r = list_room c.args.types.now (omega arith) in omega (arith, r, c.requires.room)

pub returns-clause-ok : goal.returns-clause-ok
returns-clause-ok c = list_used c.args.ranks.now _ _ _ _ c.args.types.now _ _ (omega arith) c.in_ok-bytes.ensures.ok c.in_ok-put_aligned.ensures.ok
