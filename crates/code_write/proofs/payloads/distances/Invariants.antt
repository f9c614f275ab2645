use Rattle.std.proofs.Common.{◌≡◌, map, take, length}
use Rattle.code_read.specs.Linked.{target_number}
use Rattle.code_write.proofs.payloads.distances.Given as goal

abbrev pub invariant-loop-to : goal.invariant-loop-to
invariant-loop-to l = record {
  so_far : map (target_number l.starts l.at) l.all.items ≡ take l.to-index l.targets;
  count : length l.all.items ≡ l.to-index;
}
