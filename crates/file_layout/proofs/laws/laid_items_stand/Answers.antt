use Rattle.file_layout.proofs.StandLaws.{lists_stand}
use Rattle.file_layout.proofs.laws.laid_items_stand.Goals as goal

pub returns : goal.returns
returns c = λ b kind p vs places part lays. lists_stand b kind p vs places part lays
