use Rattle.std.proofs.Common.{true≢false, refl, ◌≡◌, ◌<◌, ◌∷◌, [], ℕ, length, sym, subst, arith, slice_get, Some}
use Rattle.std.proofs.lemmas.Result.{on_ok_weaker}
use Rattle.dex_base.specs.Words.{words_bytes}
use Rattle.dex_container.specs.Layout.{size_of}
use Rattle.file_put.specs.inner.Rows.{SpellsTypeRow}
use Rattle.program_types.specs.Key.{text_key}
use Rattle.tables_names.specs.Needed.{needed}
use Rattle.file_strip.proofs.KeepLaws.{numbers_long}
use Rattle.file_strip.proofs.TableLaws.{kept_type, type_row, ranked_within, row_kept, row_not_kept}
use Rattle.file_strip.proofs.tables.put_type.Goals as goal

pub keeps-requires : goal.keeps-requires
keeps-requires c =
    let k = c.requires.kept.1 in
    let n = numbers_long (size_of c.args.sections.now 1) k.marks.columns.types c.args.numbers.now.types k.marked.types.shape k.numbered.types in
    omega (arith, n, c.requires.row)

pub returns-then-not-keeps-clause-ok : goal.returns-then-not-keeps-clause-ok
returns-then-not-keeps-clause-ok c = λ p old k a.
    let b = c.args.sections.now in
    row_not_kept text_key (SpellsTypeRow (needed p)) (size_of b 1) k.marks.columns.types c.args.numbers.now.types k.marked.types.shape k.numbered.types (needed p).types old c.args.rows.now.items c.args.i c.requires.row (λ is. true≢false (sym (c.if-not-keeps.ensures.1 is))) a

pub of-requires : goal.of-requires
of-requires c =
    let row = kept_type c.args.sections.now c.args.numbers.now c.requires.kept.0 c.requires.kept.1 c.args.i c.requires.row (c.if-not-keeps.ensures.0 refl) in
    subst (λ (n : ℕ). n < length c.args.numbers.now.strings) (sym c.type_string.ensures) (ranked_within c.args.numbers.now.strings _ _ _ row.text)

pub returns-clause-ok : goal.returns-clause-ok
returns-clause-ok c =
    on_ok_weaker c.push_words.result
    (λ w p old k a.
    let b = c.args.sections.now in
    let row = kept_type b c.args.numbers.now p k c.args.i c.requires.row (c.if-not-keeps.ensures.0 refl) in
    row_kept text_key (SpellsTypeRow (needed p)) (size_of b 1) k.marks.columns.types c.args.numbers.now.types k.marked.types.shape k.numbered.types (needed p).types old c.args.rows.now.items c.push_words.new.out.items (words_bytes (c.of.result ∷ [])) c.args.i row.name c.requires.row (c.if-not-keeps.ensures.0 refl) row.at w
    (type_row b c.args.numbers.now (needed p) c.args.i c.of.result row (subst (λ (n : ℕ). slice_get c.args.numbers.now.strings n ≡ Some c.of.result) c.type_string.ensures c.of.ensures) (omega arith)) a)
    c.push_words.ensures.ok
