use Rattle.tables_rows.proofs.RowReading.{string_one}
use Rattle.tables_rows.proofs.TypeLists.{type_one}
use Rattle.tables_rows.proofs.NameLaws.{proto_one, field_one, method_one}
use Rattle.tables_rows.proofs.row_laws.row_denotes_one_name.Goals as goal

pub returns-clause-proto : goal.returns-clause-proto
returns-clause-proto c = proto_one

pub returns-clause-string : goal.returns-clause-string
returns-clause-string c = λ b framed i s t x y. string_one b i s t framed x y

pub returns-clause-ty : goal.returns-clause-ty
returns-clause-ty c = λ b framed i s t x y. type_one b i s t framed x y

pub returns-clause-field : goal.returns-clause-field
returns-clause-field c = field_one

pub returns-clause-method : goal.returns-clause-method
returns-clause-method c = method_one
