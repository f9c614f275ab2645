use Rattle.std.proofs.Common.{rules}
use Rattle.dex_base.proofs.DescriptorLaws.{class_by_head}
use Rattle.tables_rows.proofs.kinds.is_class_row.Goals as goal

pub returns : goal.returns
returns c = (λ is. class_by_head _ c.requires (search rules), λ class. search rules)
