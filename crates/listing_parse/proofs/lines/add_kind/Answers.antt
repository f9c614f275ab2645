use Rattle.listing_lines.specs.Lines.{line_of}
use Rattle.listing_parse.proofs.lines.add_kind.Goals as goal

pub returns-in-Plain-clause-added : goal.returns-in-Plain-clause-added
unfolding line_of
returns-in-Plain-clause-added c = rw c.in-Plain.is (rw c.make_insn.ensures at c.add_insn.ensures.added)

pub returns-clause-added : goal.returns-clause-added
returns-clause-added c = rw c.in_ok-next.ensures.ok at c.add.ensures.added
