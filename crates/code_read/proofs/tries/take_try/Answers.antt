use Rattle.std.proofs.Common.{◌≡◌, Some, arith}
use Rattle.code_read.specs.Item.{try_handler}
use Rattle.code_read.specs.Places.{position}
use Rattle.code_read.proofs.PlaceLaws.{position-there}
use Rattle.code_read.proofs.TryLaws.{held-at}
use Rattle.code_read.proofs.tries.take_try.Goals as goal

pub index-caught-requires : goal.index-caught-requires
index-caught-requires c =
    let v = c.deref.ensures.value in let f = c.from.ensures in let u = c.u16_at.ensures in let n = c.number_at.ensures in let s = c.in-Some.is in
    let there : position c.args.all.now.offsets.items (try_handler c.args.items.now c.args.i) ≡ Some c.in-Some.number = cc in
    let p = (position-there c.args.all.now.offsets.items (try_handler c.args.items.now c.args.i) c.in-Some.number there).0 in
    let k = c.requires.count in
    omega arith

pub returns-clause-some : goal.returns-clause-some
returns-clause-some c =
    let v = c.deref.ensures.value in let f = c.from.ensures in let u = c.u16_at.ensures in let n = c.number_at.ensures in let s = c.in-Some.is in
    let there : position c.args.all.now.offsets.items (try_handler c.args.items.now c.args.i) ≡ Some c.in-Some.number = cc in
    let p = (position-there c.args.all.now.offsets.items (try_handler c.args.items.now c.args.i) c.in-Some.number there).0 in
    let k = c.requires.count in
    let f2 = c.from-2.ensures in let u2 = c.u32_at.ensures in let n2 = c.number_at-2.ensures in let s2 = c.in-Some-number_at.is in
    let e = c.end_of.ensures in let b = c.below.ensures.counted in
    record {
      from = cc;
      to = cc;
      number = c.in-Some.number;
      at = there;
      handler = held-at c.args.all.now.handlers.items c.in-Some.number c.index-caught.result.now (omega arith) c.index-caught.ensures;
    }
