use Rattle.program_types.specs.View as view
use Rattle.std.proofs.Common.{map}
use Rattle.file_put.specs.inner.Lists.{SpellsRanks}
use Rattle.file_put.proofs.type_lists.list_bytes.Goals as goal
use Rattle.code_write.proofs.HandlerPacks.{alone}

pub returns-clause-ok : goal.returns-clause-ok
returns-clause-ok c = alone (SpellsRanks c.args.ranks.now) _ _ (map view.desc c.args.types.now) c.new-bytes.ensures.items c.in_ok-put_list.ensures.ok
