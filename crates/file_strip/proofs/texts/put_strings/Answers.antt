use Rattle.std.proofs.Common.{◌≡◌, ◌-◌, ℕ, [], length, get_or, sym, subst, ap, ◌∙◌, arith}
use Rattle.dex_base.specs.Mutf8.{PacksText}
use Rattle.dex_container.specs.Layout.{size_of, offset_of}
use Rattle.file_layout.specs.inner.Sections.{Laying, never}
use Rattle.file_limits.specs.inner.Wide.{text_values, wide_text}
use Rattle.file_put.proofs.ApartLaws.{texts_shared}
use Rattle.tables_names.specs.Needed.{needed}
use Rattle.file_renumber.proofs.ColumnLemmas.{table_size}
use Rattle.file_strip.specs.inner.Texts.{AreFirstTexts}
use Rattle.file_strip.proofs.KeepLaws.{number_is}
use Rattle.file_strip.proofs.TextLaws.{strings_long, first_texts, all_texts, texts_count, texts_of_keys}
use Rattle.file_strip.proofs.texts.put_strings.Goals as goal

pub count-items-requires : goal.count-items-requires
count-items-requires c = let n = strings_long c.args.sections.now c.args.numbers.now c.requires.kept.0 c.requires.kept.1 in omega (arith, n)

pub loop-i-init : goal.loop-i-init
loop-i-init c = λ p k. subst (AreFirstTexts c.args.numbers.now p c.args.out.now.items c.args.out.now.items 0) (sym c.in_ok-places.ensures.items) (first_texts c.args.sections.now c.args.numbers.now p k c.args.out.now.items)

pub add_text-requires-clause-room : goal.add_text-requires-clause-room
add_text-requires-clause-room c = let b = (c.loop-i.invariant c.requires.kept.0 c.requires.kept.1).bound in omega (arith, b, c.requires.kept.2)

pub loop-i-preserved : goal.loop-i-preserved
loop-i-preserved c = λ p k. c.in_ok-add_text.ensures.ok p c.args.out.now.items k c.requires.front (c.loop-i.invariant p k)

pub returns-clause-ok : goal.returns-clause-ok
returns-clause-ok c = λ p k.
    let b = c.args.sections.now in
    let e : c.table-i-end.result.0 ≡ size_of b 0 = ap (λ x. x.0) c.table-i-end.ensures ∙ table_size (size_of b 0) (offset_of b 0) in
    let l = all_texts b c.args.numbers.now p k c.loop-i.i c.args.out.now.items c.loop-i.out.items c.loop-i.places.items (omega (arith, e, c.loop-i-test.false, c.loop-i.auto.i-end)) (c.loop-i.invariant p k) in
    let long = strings_long b c.args.numbers.now p k in
    let last : length c.args.numbers.now.strings - 1 ≡ size_of b 0 = omega (arith, long) in
    let count : length (text_values (needed p)) ≡ c.count-items.result = sym (texts_count b c.args.numbers.now p k) ∙ ap (λ (n : ℕ). get_or c.args.numbers.now.strings n 0) (sym last) ∙ number_is c.args.numbers.now.strings _ c.count-items.result c.count-items.ensures in
    subst (λ (n : ℕ). Laying never PacksText 1 wide_text c.args.out.now.items c.loop-i.out.items (text_values (needed p)) [] (text_values (needed p)) c.loop-i.places.items n) count l

pub returns-clause-once : goal.returns-clause-once
returns-clause-once c = λ p k. texts_shared (needed p).strings k.marked.rise.strings (text_values (needed p)) c.loop-i.places.items (texts_of_keys c.args.sections.now c.args.numbers.now p k)
