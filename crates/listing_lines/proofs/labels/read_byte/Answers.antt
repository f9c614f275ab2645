use Rattle.dex_base.proofs.OptionLaws.{IfNone-always}
use Rattle.listing_lines.proofs.labels.read_byte.Goals as goal

pub returns-in_err-read_marked-clause-none : goal.returns-in_err-read_marked-clause-none
returns-in_err-read_marked-clause-none c = IfNone-always c.from_residual.result (λ d s. c.in_err-read_marked.ensures.none s.0 s.1)
