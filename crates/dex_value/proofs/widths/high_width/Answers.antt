use Rattle.std.proofs.Common.{◌-◌, arith}
use Rattle.dex_value.proofs.Ranges.{power_small, power_some}
use Rattle.dex_value.proofs.widths.high_width.Goals as goal

pub pow-requires : goal.pow-requires
pow-requires c = let f = c.requires.few in let s = c.loop-width.auto.width in let p = power_small (c.args.full - c.loop-width.width) (omega (arith, f, s)) in omega (arith, p)

pub nonzero_rem-bits : goal.nonzero_rem-bits
nonzero_rem-bits c = let p = power_some (c.args.full - c.loop-width.width) in let e = c.pow.ensures in omega (arith, p, e)
