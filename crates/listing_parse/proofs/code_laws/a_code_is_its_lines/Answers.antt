use Rattle.std.proofs.Common.{◌∷◌}
use Rattle.listing_lines.specs.Lines.{open_code}
use Rattle.listing_parse.proofs.CodeLaws.{code_read, code_goes}
use Rattle.listing_parse.proofs.code_laws.a_code_is_its_lines.Goals as goal

pub returns : goal.returns
returns c = λ s t o m n r i u ls e. (code_read s t o m n r i u ls e, code_goes s t o m ((n, open_code r i u) ∷ ls))
