use Rattle.dex_container.proofs.Standing.{section_some}
use Rattle.dex_container.proofs.section.section_of.Goals as goal

pub returns-in-Some-clause-value : goal.returns-in-Some-clause-value
returns-in-Some-clause-value c = section_some _ _ _ c.framed.ensures c.in-Some.ensures.some c.in-Some.ensures.within
