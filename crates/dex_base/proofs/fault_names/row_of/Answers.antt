use Rattle.dex_base.specs.Fault.{numbers, names, sentences}
use Rattle.dex_base.proofs.fault_names.row_of.Goals as goal

pub returns-clause-name : goal.returns-clause-name
unfolding numbers names
returns-clause-name c = c.row_in.ensures.name

pub returns-clause-says : goal.returns-clause-says
unfolding numbers sentences
returns-clause-says c = c.row_in.ensures.says
