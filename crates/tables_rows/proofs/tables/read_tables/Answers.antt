use Rattle.tables_rows.specs.TableFaults.{StringHolds, TypeHolds, ProtoHolds, FieldHolds, MethodHolds, StringBreaks, TypeBreaks, ProtoBreaks, FieldBreaks, MethodBreaks}
use Rattle.tables_rows.proofs.ClearRows.{only_memory, no_first, string_clear, type_clear, proto_clear, field_clear, method_clear}
use Rattle.tables_rows.proofs.tables.read_tables.Goals as goal
use Rattle.dex_base.proofs.ListFacts.{passed}

pub returns-in_err-strings-clause-only : goal.returns-in_err-strings-clause-only
returns-in_err-strings-clause-only c =
    let b = c.args.sections.now in
    λ hold. passed _ _ _ c.from_residual.ensures.1 (only_memory _ (λ ne. no_first StringBreaks StringHolds b 0 _ (string_clear b) hold.strings (c.in_err-strings.ensures.err ne)))

pub returns-in_err-types-clause-only : goal.returns-in_err-types-clause-only
returns-in_err-types-clause-only c =
    let b = c.args.sections.now in
    λ hold. passed _ _ _ c.from_residual-in_err-types.ensures.1 (only_memory _ (λ ne. no_first TypeBreaks TypeHolds b 1 _ (type_clear b) hold.types (c.in_err-types.ensures.err ne)))

pub returns-in_err-protos-clause-only : goal.returns-in_err-protos-clause-only
returns-in_err-protos-clause-only c =
    let b = c.args.sections.now in
    λ hold. passed _ _ _ c.from_residual-in_err-protos.ensures.1 (only_memory _ (λ ne. no_first ProtoBreaks ProtoHolds b 2 _ (proto_clear b) hold.protos (c.in_err-protos.ensures.err ne)))

pub returns-in_err-fields-clause-only : goal.returns-in_err-fields-clause-only
returns-in_err-fields-clause-only c =
    let b = c.args.sections.now in
    λ hold. passed _ _ _ c.from_residual-in_err-fields.ensures.1 (only_memory _ (λ ne. no_first FieldBreaks FieldHolds b 3 _ (field_clear b) hold.fields (c.in_err-fields.ensures.err ne)))

pub returns-in_err-methods-clause-only : goal.returns-in_err-methods-clause-only
returns-in_err-methods-clause-only c =
    let b = c.args.sections.now in
    λ hold. passed _ _ _ c.from_residual-in_err-methods.ensures.1 (only_memory _ (λ ne. no_first MethodBreaks MethodHolds b 4 _ (method_clear b) hold.methods (c.in_err-methods.ensures.err ne)))
