use Rattle.std.proofs.Common.{◌≡◌, ◌++◌, map, drop}
use Rattle.program_types.specs.View.{try}
use Rattle.code_write.specs.Packs.{items_bytes}
use Rattle.code_write.proofs.items.put_items.Given as goal

abbrev pub invariant-loop-i : goal.invariant-loop-i
invariant-loop-i l = l.out.items ++ items_bytes l.size l.starts (drop l.i (map try l.tries)) (drop l.i l.offsets) ≡ l.fn.out.items ++ items_bytes l.size l.starts (map try l.tries) l.offsets
