use Rattle.file_put.proofs.AtLaws.{type_row, proto_row, field_row, method_row}
use Rattle.file_put.proofs.row_laws.rows_stand_at_their_indices.Goals as goal

pub returns-clause-types : goal.returns-clause-types
returns-clause-types c = λ s texts lists bytes rows i t at. type_row s rows.types i t rows.type_ids at

pub returns-clause-protos : goal.returns-clause-protos
returns-clause-protos c = λ s texts lists bytes rows i p at. proto_row s lists rows.protos i p rows.proto_ids at

pub returns-clause-fields : goal.returns-clause-fields
returns-clause-fields c = λ s texts lists bytes rows i f at. field_row s rows.fields i f rows.field_ids at

pub returns-clause-methods : goal.returns-clause-methods
returns-clause-methods c = λ s texts lists bytes rows i m at. method_row s rows.methods i m rows.method_ids at
