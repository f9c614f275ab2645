use Rattle.dex_base.proofs.NameUnits.{IsPlain, all_index, member_units_plain}
use Rattle.dex_base.proofs.text_laws.member_name_has_no_parenthesis.Goals as goal

pub returns : goal.returns
returns c = λ units m. all_index IsPlain units (member_units_plain units m)
