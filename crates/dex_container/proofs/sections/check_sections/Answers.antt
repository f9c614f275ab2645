use Rattle.std.proofs.Common.{rules}
use Rattle.dex_container.proofs.sections.check_sections.Goals as goal

pub returns-then-not-section_holds-clause-err : goal.returns-then-not-section_holds-clause-err
returns-then-not-section_holds-clause-err c = rw c.at.ensures (search rules)
