use Rattle.std.proofs.Common.{arith}
use Rattle.std.proofs.lemmas.Grind.{common_steps}
use Rattle.std.proofs.lemmas.List.{map-append}
use Rattle.program_types.specs.View.{field_ref}
use Rattle.tables_rows.specs.Stands.{FieldStands}
use Rattle.tables_rows.specs.TableFaults.{FieldHolds, FieldBreaks}
use Rattle.tables_rows.proofs.RowReading.{first_row, first_more, first_rows}
use Rattle.tables_rows.proofs.field_ids.read_fields.Goals as goal
use Rattle.dex_base.proofs.ListFacts.{passed}

pub returns-in_err-field-clause-err : goal.returns-in_err-field-clause-err
returns-in_err-field-clause-err c =
    passed _ _ _ c.from_residual-in_err-field.ensures.1 (λ _. first_row FieldBreaks FieldHolds c.args.sections.now 3 c.loop-i.i _ (let t = c.table-count.ensures in let lt = c.loop-i-test.true in grind (arith, common_steps)) c.loop-i.invariant.hold c.in_err-field.ensures.err)

pub loop-i-preserved : goal.loop-i-preserved
loop-i-preserved c =
    rw (c.in_ok-push.ensures.items, map-append) (first_more FieldStands FieldHolds c.args.sections.now c.loop-i.i _ (field_ref c.in_ok-field.field) c.loop-i.invariant c.in_ok-field.ensures.ok c.in_ok-field.ensures.holds)

pub returns-clause-rows : goal.returns-clause-rows
returns-clause-rows c = rw c.into_bump_slice.ensures (first_rows FieldStands FieldHolds c.args.sections.now c.loop-i.i 3 _ (let t = c.table-count.ensures in let ge = c.loop-i-test.false in let le = c.loop-i.auto.i-end in grind (arith, common_steps)) c.loop-i.invariant)
