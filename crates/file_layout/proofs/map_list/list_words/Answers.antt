use Rattle.std.proofs.Common.{◌<◌, ◌^◌, get_or, ℕ, List, subst}
use Rattle.file_layout.proofs.map_list.list_words.Goals as goal

pub returns-clause-fits : goal.returns-clause-fits
returns-clause-fits c = λ j. subst (λ (ws : List ℕ). get_or ws j 0 < 2 ^ 32) c.deref.ensures.value (c.are_words.ensures j)
