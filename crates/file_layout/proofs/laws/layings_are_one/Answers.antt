use Rattle.file_layout.specs.inner.Sections.{is_empty_list, IsItself}
use Rattle.file_layout.proofs.LayingOnce.{layings_one}
use Rattle.file_layout.proofs.laws.layings_are_one.Goals as goal

pub returns : goal.returns
returns c = λ align begin end last b d vs places others count number. layings_one is_empty_list IsItself align begin end last b d vs places others count number
