use Rattle.dexasm_run.proofs.answers.answer_seeded.Goals as goal

pub returns-in-Check-clause-refused : goal.returns-in-Check-clause-refused
returns-in-Check-clause-refused c = rw c.in-Check.is c.checked.ensures.refused

pub returns-in-List-clause-refused : goal.returns-in-List-clause-refused
returns-in-List-clause-refused c = rw c.in-List.is c.list.ensures.refused

pub returns-in-Strip-clause-refused : goal.returns-in-Strip-clause-refused
returns-in-Strip-clause-refused c = rw c.in-Strip.is c.strip_seeded.ensures.refused
