use Rattle.file_limits.proofs.PartLaws.{by_parts}
use Rattle.file_limits.proofs.laws.wide_is_by_parts.Goals as goal

pub returns : goal.returns
returns c = by_parts
