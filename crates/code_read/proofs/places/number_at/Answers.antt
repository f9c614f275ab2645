use Rattle.std.proofs.Common.{◌∙◌, sym, arith}
use Rattle.code_read.proofs.PlaceLaws.{split-none, split-other, split-some}
use Rattle.code_read.proofs.places.number_at.Goals as goal

pub returns-then-n-starts : goal.returns-then-n-starts
returns-then-n-starts c = sym (split-none _ _ _ c.split-n.ensures (omega arith))

pub returns-then-from-unit : goal.returns-then-from-unit
returns-then-from-unit c = sym (split-other _ _ _ c.requires.rises c.split-n.ensures (omega arith) (λ e. c.if-from-unit.true (c.from.ensures ∙ e)))

pub returns : goal.returns
returns c = sym (split-some _ _ _ c.split-n.ensures (omega arith) (sym c.from.ensures ∙ c.if-from-unit.false))
