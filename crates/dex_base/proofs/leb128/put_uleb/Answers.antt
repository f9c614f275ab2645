use Rattle.std.proofs.Common.{arith}
use Rattle.dex_base.proofs.Numbers.{uleb_put}
use Rattle.dex_base.proofs.leb128.put_uleb.Goals as goal

pub returns-clause-ok : goal.returns-clause-ok
returns-clause-ok c = uleb_put _ _ _ _ c.uleb_length.ensures (omega arith) c.in_ok-put_sequence.ensures.ok
