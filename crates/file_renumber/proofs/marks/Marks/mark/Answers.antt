use Rattle.std.proofs.lemmas.Result.{on_ok_weaker}
use Rattle.file_renumber.proofs.MarkLemmas.{string_row, type_row, field_row, method_row, adds_same}
use Rattle.file_renumber.proofs.marks.Marks.mark.Goals as goal

pub mark_string-requires : goal.mark_string-requires
mark_string-requires c =
    let x = string_row c.args.sections.now c.args.kind c.args.index c.requires.row.0 c.in-String.is c.requires.row.1 in
    (c.args.sections.now, c.requires.marks, (x.0, x.2))

pub returns-in-String-clause-marked : goal.returns-in-String-clause-marked
returns-in-String-clause-marked c = λ which row.
    let x = string_row c.args.sections.now c.args.kind c.args.index which c.in-String.is row in
    adds_same c.args.sections.now c.args.self.now c.mark_string.new.self which _ x.1 (c.mark_string.ensures c.args.sections.now x.0 x.2)

pub mark_type-requires-clause-row : goal.mark_type-requires-clause-row
mark_type-requires-clause-row c =
    let x = type_row c.args.sections.now c.args.kind c.args.index c.requires.row.0 c.in-Type.is c.requires.row.1 in (x.0, x.2)

pub returns-in-Type-clause-marked : goal.returns-in-Type-clause-marked
returns-in-Type-clause-marked c = λ which row.
    let x = type_row c.args.sections.now c.args.kind c.args.index which c.in-Type.is row in
    adds_same c.args.sections.now c.args.self.now c.mark_type.new.self which _ x.1 (c.mark_type.ensures x.0 x.2)

pub mark_field-requires-clause-row : goal.mark_field-requires-clause-row
mark_field-requires-clause-row c =
    let x = field_row c.args.sections.now c.args.kind c.args.index c.requires.row.0 c.in-Field.is c.requires.row.1 in (x.0, x.2)

pub returns-in-Field-clause-marked : goal.returns-in-Field-clause-marked
returns-in-Field-clause-marked c = λ which row.
    let x = field_row c.args.sections.now c.args.kind c.args.index which c.in-Field.is row in
    adds_same c.args.sections.now c.args.self.now c.mark_field.new.self which _ x.1 (c.mark_field.ensures x.0 x.2)

pub mark_method-requires-clause-row : goal.mark_method-requires-clause-row
mark_method-requires-clause-row c =
    let x = method_row c.args.sections.now c.args.kind c.args.index c.requires.row.0 c.in-Method.is c.requires.row.1 in (x.0, x.2)

pub returns-in-Method-clause-marked : goal.returns-in-Method-clause-marked
returns-in-Method-clause-marked c =
    on_ok_weaker c.mark_method.result
    (λ f which row.
    let x = method_row c.args.sections.now c.args.kind c.args.index which c.in-Method.is row in
    adds_same c.args.sections.now c.args.self.now c.mark_method.new.self which _ x.1 (f x.0 x.2))
    c.mark_method.ensures.marked
