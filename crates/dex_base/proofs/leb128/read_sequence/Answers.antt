use Rattle.std.proofs.Common.{arith, get_or, ◌%◌}
use Rattle.std.proofs.lemmas.Nat.{mul-le}
use Rattle.dex_base.proofs.Sequences.{scale_small, number_small, read_more, read_last}
use Rattle.dex_base.proofs.leb128.read_sequence.Goals as goal

pub overflow_add-number : goal.overflow_add-number
overflow_add-number c =
    let small = scale_small _ _ c.loop-i-test.true c.loop-i.invariant.scale_is in
    let low = mul-le (get_or c.args.bytes.now c.loop-i.i 0 % 128) c.loop-i.scale 127 268435456 (omega arith) small in
    let below = number_small _ _ _ _ c.loop-i.invariant in
    omega arith

pub returns-then-byte-lt128-clause-found : goal.returns-then-byte-lt128-clause-found
returns-then-byte-lt128-clause-found c = read_last _ _ _ _ c.loop-i.invariant (omega arith) (omega arith) c.if-byte-lt128.true

pub loop-i-preserved : goal.loop-i-preserved
loop-i-preserved c = read_more _ _ _ _ c.loop-i.invariant (omega arith) c.if-byte-lt128.false
