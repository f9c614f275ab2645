use Rattle.dexasm_command.proofs.StatusLaws.{zero, one, three, four}
use Rattle.dexasm_command.proofs.laws.statuses_have_meanings.Goals as goal

pub returns-clause-zero : goal.returns-clause-zero
returns-clause-zero c = zero

pub returns-clause-one : goal.returns-clause-one
returns-clause-one c = one

pub returns-clause-three : goal.returns-clause-three
returns-clause-three c = three

pub returns-clause-four : goal.returns-clause-four
returns-clause-four c = four
