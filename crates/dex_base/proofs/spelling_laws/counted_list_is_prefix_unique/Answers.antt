use Rattle.dex_base.specs.Grammar.{Pair}
use Rattle.dex_base.specs.Leb128.{Spells}
use Rattle.dex_base.proofs.Numbers.{spells_unique}
use Rattle.dex_base.proofs.GrammarLaws.{Pair-unique, Counted-unique}
use Rattle.dex_base.proofs.spelling_laws.counted_list_is_prefix_unique.Goals as goal

pub returns : goal.returns
returns c = Counted-unique Spells (Pair Spells Spells) spells_unique (Pair-unique Spells Spells spells_unique spells_unique)
