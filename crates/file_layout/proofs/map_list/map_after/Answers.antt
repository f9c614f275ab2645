use Rattle.std.proofs.Common.{◌<◌, ◌^◌, get_or, ℕ, List, subst}
use Rattle.file_layout.proofs.map_list.map_after.Goals as goal

pub returns-clause-fits : goal.returns-clause-fits
returns-clause-fits c = λ j. subst (λ (ws : List ℕ). get_or ws j 0 < 2 ^ 32) c.in_ok-words.ensures.ok (c.in_ok-words.ensures.fits j)
