use Rattle.std.proofs.Common.{arith}
use Rattle.std.proofs.lemmas.Int.{ints}
use Rattle.dex_base.proofs.Signed.{sleb_outside}
use Rattle.dex_base.proofs.leb128.read_sleb.Goals as goal

pub returns-in-Err-clause-none : goal.returns-in-Err-clause-none
returns-in-Err-clause-none c = sleb_outside c.args.bytes.now _ _ _ c.signed_of-number.result c.in_ok-sequence.ensures.found c.signed_of-number.ensures (λ low high. c.in-Err.ensures (omega (arith, ints)))
