use Rattle.std.proofs.Common.{arith}
use Rattle.program_types.specs.View as view
use Rattle.file_put.proofs.FitsLaws.{room_of}
use Rattle.file_put.proofs.NamedLaws.{row_held}
use Rattle.file_put.proofs.assembling.table_rows.Goals as goal

pub put_classes-requires-clause-held : goal.put_classes-requires-clause-held
put_classes-requires-clause-held c = λ i k there. row_held c.args.ranks.now (view.program c.args.program.now) i k c.requires.needed there

pub name_rows-requires-clause-few_strings : goal.name_rows-requires-clause-few_strings
name_rows-requires-clause-few_strings c = let r = room_of c.args.ranks.now (view.program c.args.program.now) c.requires.needed c.requires.fits in omega (arith, r.rows_are, r.whole)

pub name_rows-requires-clause-few_types : goal.name_rows-requires-clause-few_types
name_rows-requires-clause-few_types c = (room_of c.args.ranks.now (view.program c.args.program.now) c.requires.needed c.requires.fits).few_types

pub name_rows-requires-clause-few_protos : goal.name_rows-requires-clause-few_protos
name_rows-requires-clause-few_protos c = (room_of c.args.ranks.now (view.program c.args.program.now) c.requires.needed c.requires.fits).few_protos

pub put_classes-requires-clause-few_types : goal.put_classes-requires-clause-few_types
put_classes-requires-clause-few_types c = (room_of c.args.ranks.now (view.program c.args.program.now) c.requires.needed c.requires.fits).few_types

pub put_classes-requires-clause-few_strings : goal.put_classes-requires-clause-few_strings
put_classes-requires-clause-few_strings c = let r = room_of c.args.ranks.now (view.program c.args.program.now) c.requires.needed c.requires.fits in omega (arith, r.rows_are, r.whole)
