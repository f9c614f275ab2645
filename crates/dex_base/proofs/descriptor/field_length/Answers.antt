use Rattle.std.proofs.Common.{arith}
use Rattle.dex_base.proofs.OptionLaws.{IfNone-always}
use Rattle.dex_base.proofs.DescriptorLaws.{field_found, field_none, field_none_deep}
use Rattle.dex_base.proofs.descriptor.field_length.Goals as goal

pub returns-then-n-gt-MAX_DIMENSIONS-clause-none : goal.returns-then-n-gt-MAX_DIMENSIONS-clause-none
returns-then-n-gt-MAX_DIMENSIONS-clause-none c = field_none_deep c.args.units.now _ c.depth-n.ensures.depth c.depth-n.ensures.inside (omega arith)

pub returns-in_err-length-clause-none : goal.returns-in_err-length-clause-none
returns-in_err-length-clause-none c = IfNone-always _ (field_none c.args.units.now _ c.depth-n.ensures.depth c.depth-n.ensures.inside (rw c.split_at.ensures.back at c.in_err-length.ensures.none))

pub returns-clause-found : goal.returns-clause-found
returns-clause-found c = field_found c.args.units.now _ _ c.depth-n.ensures.depth c.depth-n.ensures.inside (omega arith) (rw c.split_at.ensures.back at c.in_ok-length.ensures.found)
