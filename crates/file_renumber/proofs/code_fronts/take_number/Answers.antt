use Rattle.dex_base.specs.Leb128.{Spells}
use Rattle.dex_base.proofs.TakesLaws.{Takes-none}
use Rattle.file_renumber.proofs.code_fronts.take_number.Goals as goal

pub unreachable-requires : goal.unreachable-requires
unreachable-requires c = Takes-none Spells c.args.bytes.now c.requires.0 c.requires.1 c.in-None.ensures.none c.requires.2
