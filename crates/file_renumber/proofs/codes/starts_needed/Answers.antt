use Rattle.std.proofs.Common.{arith}
use Rattle.std.proofs.lemmas.Result.{IfOk-weaker}
use Rattle.file_renumber.proofs.CodeLemmas.{none_rise}
use Rattle.file_renumber.proofs.codes.starts_needed.Goals as goal

pub returns-then-item-eq0-clause-table : goal.returns-then-item-eq0-clause-table
returns-then-item-eq0-clause-table c = λ rs walk some. let none = c.if-item-eq0.true in absurd (omega (arith, none, some))

pub returns-then-item-eq0-clause-rises : goal.returns-then-item-eq0-clause-rises
returns-then-item-eq0-clause-rises c = none_rise _ c.new.ensures.items

pub returns-clause-table : goal.returns-clause-table
returns-clause-table c = IfOk-weaker c.starts_of.result _ _ (λ all f rs walk some. (f rs walk).is) c.starts_of.ensures.table

pub returns-clause-rises : goal.returns-clause-rises
returns-clause-rises c = IfOk-weaker c.starts_of.result _ _ (λ all f. (f c.requires.insns.0 c.requires.insns.1).rises) c.starts_of.ensures.table
