use Rattle.std.proofs.Common.{[], ◌++◌, arith, append-nil, get_or, ap, ◌∙◌}
use Rattle.dex_base.specs.Fields.{u32_bytes}
use Rattle.dex_base.specs.Words.{words_bytes}
use Rattle.program_types.specs.Key.{text_key}
use Rattle.dex_base.proofs.GrammarLaws.{Each-appends_none}
use Rattle.tables_names.specs.Numbers.{TypeAt}
use Rattle.file_put.specs.inner.Rows.{SpellsTypeRow}
use Rattle.file_put.proofs.PartLaws.{no_type, part_at, type_of, type_fits, type_row, types_named, keys_more, keys_are_table}
use Rattle.file_put.proofs.type_ids.put_types.Goals as goal

pub loop-ty-init : goal.loop-ty-init
loop-ty-init c = Each-appends_none (SpellsTypeRow c.args.ranks.now) c.args.rows.now.items

pub overflow_cast-ty : goal.overflow_cast-ty
overflow_cast-ty c =
    let s = c.args.ranks.now in
    let lt = type_fits s.strings (get_or s.types c.loop-ty.ty-index []) (get_or c.type_parts-ty-items.result.now c.loop-ty.ty-index no_type) (part_at (TypeAt s.strings) s.types c.type_parts-ty-items.result.now c.loop-ty.ty-index no_type c.type_parts-ty-items.ensures c.loop-ty-test.true) in
    omega (arith, lt, c.requires.few_strings)

pub loop-ty-preserved : goal.loop-ty-preserved
unfolding words_bytes
loop-ty-preserved c =
    let s = c.args.ranks.now in
    let parts = c.type_parts-ty-items.result.now in
    let at = part_at (TypeAt s.strings) s.types parts c.loop-ty.ty-index no_type c.type_parts-ty-items.ensures c.loop-ty-test.true in
    keys_more (TypeAt s.strings) type_of (SpellsTypeRow s) _ _ _ _ s.types parts c.loop-ty.ty-index c.type_parts-ty-items.ensures c.loop-ty-test.true c.loop-ty.invariant
    (c.in_ok-push_words.ensures.ok ∙ ap (λ l. c.loop-ty.rows.items ++ l) (append-nil (u32_bytes (get_or parts c.loop-ty.ty-index no_type).text)))
    (type_row s (get_or s.types c.loop-ty.ty-index []) (get_or parts c.loop-ty.ty-index no_type) c.requires.few_strings at)

pub returns-clause-ok : goal.returns-clause-ok
returns-clause-ok c =
    let s = c.args.ranks.now in
    let parts = c.type_parts-ty-items.result.now in
    keys_are_table (TypeAt s.strings) type_of text_key (SpellsTypeRow s) _ _ s.types parts c.loop-ty.ty-index c.type_parts-ty-items.ensures (types_named s.strings s.types parts c.type_parts-ty-items.ensures) c.loop-ty-test.false c.loop-ty.invariant
