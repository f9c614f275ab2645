use Rattle.std.proofs.Common.{◌<◌, ◌^◌, length, sym, subst, ℤ, rules}
use Rattle.std.proofs.lemmas.Int.{to_z-of_z}
use mir.Val.{SFits}
use mir.Syntax.{w64}
use Rattle.byteorder.specs.Endian.{little_number}
use Rattle.byteorder.specs.Numbers.{little_from-lt}
use Rattle.dex_value.proofs.Ranges.{twos_int, IsWithin}
use Rattle.dex_value.proofs.numbers.signed.Goals as goal

pub returns-clause-int : goal.returns-clause-int
returns-clause-int c = λ few.
    let fits : SFits w64 c.read_int.result = search rules in
    let small : little_number (length c.args.low.now) c.args.low.now < 256 ^ length c.args.low.now = little_from-lt 0 (length c.args.low.now) c.args.low.now (λ i. (c.type_inv.low i).fits) in
    rw (to_z-of_z w64 c.read_int.result fits) (subst (λ (z : ℤ). IsWithin z 2147483648) (sym c.read_int.ensures) (twos_int (length c.args.low.now) (little_number (length c.args.low.now) c.args.low.now) c.requires.some few small))
