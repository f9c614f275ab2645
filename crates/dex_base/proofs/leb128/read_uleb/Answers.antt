use Rattle.std.proofs.Common.{arith}
use Rattle.dex_base.proofs.Numbers.{uleb_large}
use Rattle.dex_base.proofs.leb128.read_uleb.Goals as goal

pub returns-then-sequence-clause-none : goal.returns-then-sequence-clause-none
returns-then-sequence-clause-none c = uleb_large c.args.bytes.now _ _ _ c.in_ok-sequence.ensures.found (omega arith)
