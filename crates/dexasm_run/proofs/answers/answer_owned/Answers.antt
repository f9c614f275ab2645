use Rattle.dexasm_run.proofs.answers.answer_owned.Goals as goal

pub returns-in-Assemble-clause-refused : goal.returns-in-Assemble-clause-refused
returns-in-Assemble-clause-refused c = rw c.in-Assemble.is c.assemble_owned.ensures.refused
