use Rattle.dex_names.proofs.SpelledLaws.{written_spells}
use Rattle.dex_names.proofs.laws.written_names_are_spelled.Goals as goal

pub returns : goal.returns
returns c = written_spells
