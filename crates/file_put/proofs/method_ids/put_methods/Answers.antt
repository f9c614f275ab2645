use Rattle.std.proofs.Common.{[], arith, get_or}
use Rattle.dex_base.proofs.GrammarLaws.{Each-appends_none}
use Rattle.program_types.specs.Key.{method_ref_key}
use Rattle.tables_names.specs.Numbers.{MethodAt}
use Rattle.file_put.specs.inner.Rows.{SpellsMethodRow}
use Rattle.file_put.proofs.PartLaws.{no_method, part_at, method_of, method_fits, method_row, methods_named, keys_more, keys_are_table}
use Rattle.file_put.proofs.method_ids.put_methods.Goals as goal

pub loop-method-init : goal.loop-method-init
loop-method-init c = Each-appends_none (SpellsMethodRow c.args.ranks.now) c.args.rows.now.items

pub put_method-requires : goal.put_method-requires
put_method-requires c =
    let s = c.args.ranks.now in
    let at = part_at (MethodAt s.types s.strings s.protos) s.methods c.method_parts-method-items.result.now c.loop-method.method-index no_method c.method_parts-method-items.ensures c.loop-method-test.true in
    let fits = method_fits s.types s.strings s.protos (get_or s.methods c.loop-method.method-index []) (get_or c.method_parts-method-items.result.now c.loop-method.method-index no_method) at in
    record { class = omega (arith, fits.0, c.requires.few_types); proto = omega (arith, fits.2, c.requires.few_protos); name = omega (arith, fits.1, c.requires.few_strings) }

pub loop-method-preserved : goal.loop-method-preserved
loop-method-preserved c =
    let s = c.args.ranks.now in
    let parts = c.method_parts-method-items.result.now in
    let at = part_at (MethodAt s.types s.strings s.protos) s.methods parts c.loop-method.method-index no_method c.method_parts-method-items.ensures c.loop-method-test.true in
    let fits = method_fits s.types s.strings s.protos (get_or s.methods c.loop-method.method-index []) (get_or parts c.loop-method.method-index no_method) at in
    keys_more (MethodAt s.types s.strings s.protos) method_of (SpellsMethodRow s) _ _ _ _ s.methods parts c.loop-method.method-index c.method_parts-method-items.ensures c.loop-method-test.true c.loop-method.invariant c.in_ok-put_method.ensures.ok
    (method_row s (get_or s.methods c.loop-method.method-index []) (get_or parts c.loop-method.method-index no_method) (omega (arith, fits.0, c.requires.few_types)) (omega (arith, fits.2, c.requires.few_protos)) (omega (arith, fits.1, c.requires.few_strings)) at)

pub returns-clause-ok : goal.returns-clause-ok
returns-clause-ok c =
    let s = c.args.ranks.now in
    let parts = c.method_parts-method-items.result.now in
    keys_are_table (MethodAt s.types s.strings s.protos) method_of method_ref_key (SpellsMethodRow s) _ _ s.methods parts c.loop-method.method-index c.method_parts-method-items.ensures (methods_named s.strings s.types s.protos s.methods parts c.method_parts-method-items.ensures) c.loop-method-test.false c.loop-method.invariant
