use Rattle.dex_base.proofs.DescriptorLaws.{class_by_head, class_is_descriptor}
use Rattle.dex_base.proofs.text_laws.class_begins_with_l.Goals as goal

pub returns : goal.returns
returns c = λ units. (class_is_descriptor units, λ d. class_by_head units d.0 d.1)
