use Rattle.std.proofs.Common.{◌-◌, length, arith}
use Rattle.dex_value.proofs.Ranges.{power_small, power_most, high_below}
use Rattle.dex_value.proofs.numbers.high.Goals as goal

pub pow-requires : goal.pow-requires
pow-requires c = let s = c.requires.some in let f = c.requires.few in let w = c.requires.wide in let p = power_small (c.args.width - length c.args.bytes.now) (omega (arith, s, f, w)) in omega (arith, p)

pub overflow_mul-result : goal.overflow_mul-result
overflow_mul-result c =
    let w = c.requires.wide in
    let h = high_below c.unsigned.result (length c.args.bytes.now) c.args.width c.unsigned.ensures.fits c.requires.few in
    let p = power_most c.args.width 8 w in
    let e = c.pow.ensures in
    rw e (record { fits = omega (arith, h, p) })

pub returns-clause-float : goal.returns-clause-float
returns-clause-float c = λ is.
    let h = high_below c.unsigned.result (length c.args.bytes.now) c.args.width c.unsigned.ensures.fits c.requires.few in
    let p = power_most c.args.width 4 (omega (arith, is)) in
    let e = c.pow.ensures in
    rw e (omega (arith, h, p))
