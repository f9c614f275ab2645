use Rattle.std.proofs.Common.{arith}
use Rattle.dex_base.proofs.UnitLaws.{units_none, single_found}
use Rattle.dex_base.proofs.mutf8.read_units.Goals as goal

pub returns-then-bytes-count-clause-none : goal.returns-then-bytes-count-clause-none
returns-then-bytes-count-clause-none c = units_none c.args.count c.args.bytes.now c.if-bytes-count.true

pub returns-then-are_single-clause-found : goal.returns-then-are_single-clause-found
returns-then-are_single-clause-found c =
    let room = c.if-bytes-count.false in
    single_found c.args.bytes.now c.split_at.result.0.now _ c.args.count (omega (arith, room)) c.split_at.ensures.front c.in_ok-single_units.ensures.ok
    (c.are_single.ensures c.if-are_single.true)
