use Rattle.program_types.proofs.Letters.{letter_stands, letter_only}
use Rattle.program_types.proofs.shorty.shorty_laws.Goals as goal

pub returns : goal.returns
returns c = λ descriptor one is. (
  letter_only descriptor one is,
  λ e. rw e (letter_stands descriptor is),
)
