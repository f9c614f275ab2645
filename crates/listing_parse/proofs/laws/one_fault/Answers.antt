use Rattle.listing_parse.proofs.OneFault.{fault_one}
use Rattle.listing_parse.proofs.laws.one_fault.Goals as goal

pub returns : goal.returns
returns c = fault_one
