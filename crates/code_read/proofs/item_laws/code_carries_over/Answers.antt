use Rattle.tables_rows.specs.Names.{NameIsAt}
use Rattle.code_read.proofs.CarryLaws.{code_weaker}
use Rattle.code_read.proofs.item_laws.code_carries_over.Goals as goal

pub returns : goal.returns
returns c = λ m n f. code_weaker (NameIsAt m) (NameIsAt n) f
