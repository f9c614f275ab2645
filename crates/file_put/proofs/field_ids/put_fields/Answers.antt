use Rattle.std.proofs.Common.{[], arith, get_or}
use Rattle.dex_base.proofs.GrammarLaws.{Each-appends_none}
use Rattle.program_types.specs.Key.{field_ref_key}
use Rattle.tables_names.specs.Numbers.{FieldAt}
use Rattle.file_put.specs.inner.Rows.{SpellsFieldRow}
use Rattle.file_put.proofs.PartLaws.{no_field, part_at, field_of, field_fits, field_row, fields_named, keys_more, keys_are_table}
use Rattle.file_put.proofs.field_ids.put_fields.Goals as goal

pub loop-field-init : goal.loop-field-init
loop-field-init c = Each-appends_none (SpellsFieldRow c.args.ranks.now) c.args.rows.now.items

pub put_field-requires : goal.put_field-requires
put_field-requires c =
    let s = c.args.ranks.now in
    let at = part_at (FieldAt s.types s.strings) s.fields c.field_parts-field-items.result.now c.loop-field.field-index no_field c.field_parts-field-items.ensures c.loop-field-test.true in
    let fits = field_fits s.types s.strings (get_or s.fields c.loop-field.field-index []) (get_or c.field_parts-field-items.result.now c.loop-field.field-index no_field) at in
    record { class = omega (arith, fits.0, c.requires.few_types); ty = omega (arith, fits.2, c.requires.few_types); name = omega (arith, fits.1, c.requires.few_strings) }

pub loop-field-preserved : goal.loop-field-preserved
loop-field-preserved c =
    let s = c.args.ranks.now in
    let parts = c.field_parts-field-items.result.now in
    let at = part_at (FieldAt s.types s.strings) s.fields parts c.loop-field.field-index no_field c.field_parts-field-items.ensures c.loop-field-test.true in
    let fits = field_fits s.types s.strings (get_or s.fields c.loop-field.field-index []) (get_or parts c.loop-field.field-index no_field) at in
    keys_more (FieldAt s.types s.strings) field_of (SpellsFieldRow s) _ _ _ _ s.fields parts c.loop-field.field-index c.field_parts-field-items.ensures c.loop-field-test.true c.loop-field.invariant c.in_ok-put_field.ensures.ok
    (field_row s (get_or s.fields c.loop-field.field-index []) (get_or parts c.loop-field.field-index no_field) (omega (arith, fits.0, c.requires.few_types)) (omega (arith, fits.2, c.requires.few_types)) (omega (arith, fits.1, c.requires.few_strings)) at)

pub returns-clause-ok : goal.returns-clause-ok
returns-clause-ok c =
    let s = c.args.ranks.now in
    let parts = c.field_parts-field-items.result.now in
    keys_are_table (FieldAt s.types s.strings) field_of field_ref_key (SpellsFieldRow s) _ _ s.fields parts c.loop-field.field-index c.field_parts-field-items.ensures (fields_named s.strings s.types s.fields parts c.field_parts-field-items.ensures) c.loop-field-test.false c.loop-field.invariant
