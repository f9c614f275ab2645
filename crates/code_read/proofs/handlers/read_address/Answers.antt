use Rattle.dex_base.proofs.OptionLaws.{IfNone-always}
use Rattle.std.proofs.Common.{◌≡◌, Some}
use Rattle.dex_base.specs.Leb128.{Spells}
use Rattle.dex_base.proofs.Numbers.{spells_unique}
use Rattle.code_read.specs.Places.{position}
use Rattle.dex_base.proofs.ViaLaws.{via-nothing}
use Rattle.code_read.proofs.handlers.read_address.Goals as goal

pub returns-in_err-n-clause-none : goal.returns-in_err-n-clause-none
returns-in_err-n-clause-none c =
    IfNone-always _ (via-nothing Spells (λ address n. position c.args.starts.now address ≡ Some n) c.args.bytes.now _ c.in_ok-address.address spells_unique c.in_ok-address.ensures.some
    (λ n p. let e = c.in_err-n.ensures in let f = c.from.ensures in cc))
