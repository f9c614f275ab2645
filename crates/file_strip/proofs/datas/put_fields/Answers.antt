use Rattle.std.proofs.Common.{map, get_or, arith}
use Rattle.std.proofs.lemmas.List.{length-map}
use Rattle.file_classes.specs.inner.Reading.{field_entry}
use Rattle.file_classes.specs.ClassData.{SpellsFieldEntry}
use Rattle.file_classes.specs.declared.class_data.FieldEntry as made
use Rattle.dex_base.specs.Leb128.{Spells, Shortest}
use Rattle.file_put.specs.inner.Data.{FieldRanks}
use Rattle.tables_names.specs.Closure.{NameRanks}
use Rattle.file_strip.proofs.MemberLaws.{run_start, run_index, run_low, run_more, fields_end}
use Rattle.file_strip.proofs.datas.put_fields.Goals as goal
use Rattle.dex_base.proofs.ListFacts.{map_at}

pub loop-entry-init : goal.loop-entry-init
loop-entry-init c = λ s class ms r. run_start c.args.numbers.now.fields (FieldRanks (NameRanks s) class) (SpellsFieldEntry (Shortest Spells)) (map field_entry c.args.entries.now) ms c.args.out.now.items

pub overflow_add-index : goal.overflow_add-index
overflow_add-index c =
    let r = c.requires.run in
    let xs = c.args.entries.now in
    let i = c.loop-entry.entry-index in
    let n = length-map xs field_entry in
    let d : made.FieldEntry = record { step = 0; flags = 0 } in
    let h = (run_index r.3 (c.loop-entry.invariant r.0 r.1 r.2 r.3) (omega (arith, n, c.loop-entry-test.true)) (field_entry (get_or xs i d)) (map_at field_entry xs i d c.loop-entry-test.true) c.requires.few).1 in
    omega (arith, h)

pub of-number-requires : goal.of-number-requires
of-number-requires c =
    let r = c.requires.run in
    let n = length-map c.args.entries.now field_entry in
    (run_index r.3 (c.loop-entry.invariant r.0 r.1 r.2 r.3) (omega (arith, n, c.loop-entry-test.true)) _ (map_at field_entry c.args.entries.now c.loop-entry.entry-index _ c.loop-entry-test.true) c.requires.few).0

pub overflow_sub-number : goal.overflow_sub-number
overflow_sub-number c =
    let r = c.requires.run in
    let n = length-map c.args.entries.now field_entry in
    run_low r.3 (c.loop-entry.invariant r.0 r.1 r.2 r.3) (omega (arith, n, c.loop-entry-test.true)) _ (map_at field_entry c.args.entries.now c.loop-entry.entry-index _ c.loop-entry-test.true) c.of-number.result c.of-number.ensures

pub loop-entry-preserved : goal.loop-entry-preserved
loop-entry-preserved c = λ s class ms r.
    let n = length-map c.args.entries.now field_entry in
    run_more r (c.loop-entry.invariant s class ms r) (omega (arith, n, c.loop-entry-test.true)) _ (map_at field_entry c.args.entries.now c.loop-entry.entry-index _ c.loop-entry-test.true) c.of-number.result c.of-number.ensures _ _ (λ step v m. record { field = m.field; flags = m.flags }) c.in_ok-put_field.ensures.ok

pub returns-clause-ok : goal.returns-clause-ok
returns-clause-ok c = λ s class ms r.
    let n = length-map c.args.entries.now field_entry in
    fields_end c.args.numbers.now.fields s class (map field_entry c.args.entries.now) ms r _ _ c.loop-entry.entry-index _ _ (omega (arith, n, c.loop-entry-test.false)) (c.loop-entry.invariant s class ms r)
