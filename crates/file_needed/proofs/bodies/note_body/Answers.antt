use Rattle.tables_names.proofs.NotedLemmas.{notes_none}
use Rattle.file_needed.proofs.bodies.note_body.Goals as goal

pub returns-in-None-clause-added : goal.returns-in-None-clause-added
returns-in-None-clause-added c = rw c.in-None.is (notes_none c.args.noted.now)
