use Rattle.std.proofs.Common.{◌≡◌, ◌++◌, ◌*◌, drop, length}
use Rattle.code_read.specs.Symbols.{ints}
use Rattle.code_write.proofs.payloads.int_bytes.Given as goal

abbrev pub invariant-loop-number : goal.invariant-loop-number
invariant-loop-number l = record {
  so_far : ints l.bytes.items ++ drop l.number-index l.numbers ≡ l.numbers;
  count : length l.bytes.items ≡ 4 * l.number-index;
}
