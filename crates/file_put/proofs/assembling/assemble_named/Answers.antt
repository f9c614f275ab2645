use Rattle.program_types.specs.View as view
use Rattle.file_put.proofs.ReadyLaws.{class_ready}
use Rattle.file_put.proofs.assembling.assemble_named.Goals as goal

pub check_limits-requires-clause-ready : goal.check_limits-requires-clause-ready
check_limits-requires-clause-ready c = λ i k there. class_ready c.args.ranks.now (view.program c.args.program.now) i k c.requires.needed c.requires.formed there
