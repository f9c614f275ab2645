use Rattle.std.proofs.Common.{arith}
use Rattle.file_strip.proofs.MovedLaws.{no_item, some_item}
use Rattle.file_strip.proofs.moved.item_place.Goals as goal

pub returns-then-len-eq0-clause-ok : goal.returns-then-len-eq0-clause-ok
returns-then-len-eq0-clause-ok c = no_item 1 _ _ c.args.bytes.items (omega arith)

pub returns-clause-ok : goal.returns-clause-ok
returns-clause-ok c = some_item 1 _ _ _ _ c.args.bytes.items _ (omega arith) c.in_ok-put.ensures.ok
