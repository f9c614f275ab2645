use Rattle.std.proofs.Common.{rules, inl}
use Rattle.dex_base.proofs.DescriptorLaws.{class_by_head}
use Rattle.tables_rows.proofs.kinds.is_class_or_array_row.Goals as goal

pub returns-then-head-from : goal.returns-then-head-from
returns-then-head-from c = (λ is. inl (class_by_head _ c.requires (search rules)), λ _. rw c.if-head-from.true (search rules))
