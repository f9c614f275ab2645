use Rattle.std.proofs.Common.{List, ℕ, subst}
use Rattle.listing_words.specs.Names.{IsProtoText, IsFieldText, IsMethodText}
use Rattle.listing_words.proofs.NameLaws.{units_one, proto_one, field_one, method_one}
use Rattle.dex_names.proofs.laws.a_text_spells_one_name.Goals as goal

pub returns-clause-text : goal.returns-clause-text
returns-clause-text c = λ written us vs p q. units_one written us vs p.1 q.1

pub returns-clause-ty : goal.returns-clause-ty
returns-clause-ty c = λ written d e p q. units_one written d e p.0.1 q.0.1

pub returns-clause-proto : goal.returns-clause-proto
returns-clause-proto c = λ written p q a b. proto_one a.0 p q a.2 (subst (λ (us : List ℕ). IsProtoText us q) (units_one written b.0 a.0 b.1.1 a.1.1) b.2)

pub returns-clause-field : goal.returns-clause-field
returns-clause-field c = λ written f g a b. field_one a.0 f g a.2 (subst (λ (us : List ℕ). IsFieldText us g) (units_one written b.0 a.0 b.1.1 a.1.1) b.2)

pub returns-clause-method : goal.returns-clause-method
returns-clause-method c = λ written m n a b. method_one a.0 m n a.2 (subst (λ (us : List ℕ). IsMethodText us n) (units_one written b.0 a.0 b.1.1 a.1.1) b.2)
