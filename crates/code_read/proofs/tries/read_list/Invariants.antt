use Rattle.std.proofs.Common.{◌≤◌, length, map}
use Rattle.tables_rows.specs.Names.{NameIsAt}
use Rattle.code_read.specs.inner.HandlerViews.{handler}
use Rattle.code_read.proofs.ListReading.{ReadSome}
use Rattle.code_read.proofs.tries.read_list.Given as goal

abbrev pub invariant-loop-turn : goal.invariant-loop-turn
invariant-loop-turn l = record {
  some : ReadSome (NameIsAt l.tables) l.starts l.bytes l.initial.left l.left l.offsets.items (map handler l.handlers.items) l._turn;
  left_short : length l.left ≤ length l.bytes;
}
