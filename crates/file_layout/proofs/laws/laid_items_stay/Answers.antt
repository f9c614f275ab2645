use Rattle.std.proofs.Common.{arith}
use Rattle.file_layout.proofs.TileLaws.{Lays-agree}
use Rattle.file_layout.proofs.laws.laid_items_stay.Goals as goal

pub returns : goal.returns
returns c = λ b d begin end vs places count same lays. Lays-agree _ _ 4 begin end b d begin vs places count lays (omega arith) same
