use Rattle.std.proofs.Common.{arith}
use Rattle.program_types.specs.View as view
use Rattle.file_put.proofs.PlacedClasses.{rank_or_none}
use Rattle.file_put.proofs.class_defs.type_or_none.Goals as goal

pub returns-in-Some : goal.returns-in-Some
returns-in-Some c = rw (c.in-Some.is, c.from.ensures) (rank_or_none c.args.ranks.now.types _ (view.desc c.in-Some.ty) (omega (arith, c.requires.few)) c.type_index.ensures)
