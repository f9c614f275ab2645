use Rattle.std.proofs.Common.{arith}
use Rattle.dex_insn.proofs.StandingLaws.{spelled-whole}
use Rattle.file_renumber.proofs.in_place.clear_pad.Goals as goal

pub overflow_mul-front : goal.overflow_mul-front
overflow_mul-front c =
    let p = c.payload_at-units.ensures c.requires.0 c.requires.1 in
    let w = spelled-whole c.args.front.now c.requires.0 c.requires.1 in
    let size = p.0 in let there = w.1 in let fits = c.has_length.ensures in omega (arith, size, there, fits)

pub overflow_sub-front : goal.overflow_sub-front
overflow_sub-front c =
    let p = c.payload_at-units.ensures c.requires.0 c.requires.1 in
    let w = spelled-whole c.args.front.now c.requires.0 c.requires.1 in
    let size = p.0 in let some = w.0 in omega (arith, size, some)

pub bounds-front-units : goal.bounds-front-units
bounds-front-units c =
    let p = c.payload_at-units.ensures c.requires.0 c.requires.1 in
    let w = spelled-whole c.args.front.now c.requires.0 c.requires.1 in
    let size = p.0 in let some = w.0 in let there = w.1 in omega (arith, size, some, there)
