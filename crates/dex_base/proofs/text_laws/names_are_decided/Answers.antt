use Rattle.dex_base.proofs.NamesDecided as law
use Rattle.dex_base.proofs.text_laws.names_are_decided.Goals as goal

pub returns-clause-descriptor : goal.returns-clause-descriptor
returns-clause-descriptor c = law.decide_descriptor

pub returns-clause-class : goal.returns-clause-class
returns-clause-class c = law.decide_class

pub returns-clause-array : goal.returns-clause-array
returns-clause-array c = law.decide_array

pub returns-clause-member : goal.returns-clause-member
returns-clause-member c = law.decide_member
