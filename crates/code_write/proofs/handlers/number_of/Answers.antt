use Rattle.code_write.proofs.NumberLaws.{numbered}
use Rattle.code_write.proofs.handlers.number_of.Goals as goal

pub returns-clause-ok : goal.returns-clause-ok
returns-clause-ok c = let s = c.in_ok-number.ensures.stored in numbered c.args.handlers.now.keys _ c.args.bytes c.in_ok-number.number s.0 s.1 s.2 c.in_ok-number.ensures.keys c.in_ok-number.ensures.index
