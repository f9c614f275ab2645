use Rattle.program_types.specs.View as view
use Rattle.file_put.proofs.NamedLaws.{have_shorties}
use Rattle.file_put.proofs.assembling.assemble_in.Goals as goal

pub needed_names-requires : goal.needed_names-requires
needed_names-requires c = have_shorties (view.program c.args.program.now) c.requires.formed.rules

pub assemble_named-requires-clause-indices : goal.assemble_named-requires-clause-indices
assemble_named-requires-clause-indices c = rw c.deref.ensures.value c.in_ok-ranks.ensures.ranks
