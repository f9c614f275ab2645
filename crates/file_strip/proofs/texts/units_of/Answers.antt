use Rattle.file_strip.proofs.TextLaws.{no_zero, units_ended}
use Rattle.file_strip.proofs.texts.units_of.Goals as goal

pub unreachable-requires : goal.unreachable-requires
unreachable-requires c = no_zero c.args.bytes.now c.requires.0 c.requires.1 c.requires.2 c.in-None.ensures

pub returns : goal.returns
returns c = λ t rest a. units_ended c.args.bytes.now t rest c.in-Some.end a c.in-Some.ensures
