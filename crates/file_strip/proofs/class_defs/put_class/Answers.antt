use Rattle.std.proofs.Common.{◌≡◌, ◌<◌, ◌^◌, ◌∷◌, [], ◌++◌, ℕ, length, sym, subst, ap, ◌∙◌, arith, slice_get, Some}
use Rattle.std.proofs.lemmas.Result.{on_ok_weaker}
use Rattle.dex_base.specs.Words.{words_bytes}
use Rattle.file_strip.specs.inner.Names.{StringOrNone, TypeOrNone}
use Rattle.tables_names.specs.Needed.{needed}
use Rattle.file_strip.proofs.ClassRowLaws.{class_within, superclass, source, class_row}
use Rattle.file_strip.proofs.class_defs.put_class.Goals as goal
use Rattle.file_classes.proofs.EntryLaws.{entry_at}

pub of-requires : goal.of-requires
of-requires c =
    let p = c.requires.kept.0 in
    let k = c.requires.kept.1 in
    let n = k.classes.count in
    let x = entry_at p c.args.i (omega (arith, n, c.requires.row)) in
    subst (λ (i : ℕ). i < length c.args.numbers.now.types) (sym c.class_word.ensures) (class_within c.args.sections.now c.args.numbers.now p k c.args.i x.0 x.1)

pub type_or_none-requires : goal.type_or_none-requires
type_or_none-requires c =
    let b = c.args.sections.now in
    let p = c.requires.kept.0 in
    let k = c.requires.kept.1 in
    let n = k.classes.count in
    let x = entry_at p c.args.i (omega (arith, n, c.requires.row)) in
    (b, needed p, x.0.superclass, subst (λ (i : ℕ). TypeOrNone b c.args.numbers.now (needed p) i x.0.superclass) (sym c.class_word-3.ensures) (superclass b c.args.numbers.now p k c.args.i x.0 x.1))

pub string_or_none-requires : goal.string_or_none-requires
string_or_none-requires c =
    let b = c.args.sections.now in
    let p = c.requires.kept.0 in
    let k = c.requires.kept.1 in
    let n = k.classes.count in
    let x = entry_at p c.args.i (omega (arith, n, c.requires.row)) in
    (b, needed p, x.0.source, subst (λ (i : ℕ). StringOrNone b c.args.numbers.now (needed p) i x.0.source) (sym c.class_word-4.ensures) (source b c.args.numbers.now p k c.args.i x.0 x.1))

pub returns-clause-ok : goal.returns-clause-ok
returns-clause-ok c =
    on_ok_weaker c.push_words.result
    (λ w p k x at.
    let b = c.args.sections.now in
    let above = c.type_or_none.ensures b (needed p) x.superclass (subst (λ (i : ℕ). TypeOrNone b c.args.numbers.now (needed p) i x.superclass) (sym c.class_word-3.ensures) (superclass b c.args.numbers.now p k c.args.i x at)) in
    let written = c.string_or_none.ensures b (needed p) x.source (subst (λ (i : ℕ). StringOrNone b c.args.numbers.now (needed p) i x.source) (sym c.class_word-4.ensures) (source b c.args.numbers.now p k c.args.i x at)) in
    let there = subst (λ (i : ℕ). slice_get c.args.numbers.now.types i ≡ Some c.of.result) c.class_word.ensures c.of.ensures in
    let words = w ∙ ap (λ (f : ℕ). c.args.rows.now.items ++ words_bytes (c.of.result ∷ f ∷ c.type_or_none.result ∷ c.args.places.list ∷ c.string_or_none.result ∷ 0 ∷ c.args.places.class_data ∷ c.args.places.array ∷ [])) c.class_word-2.ensures in
    let flags : c.class_word-2.result < 2 ^ 32 = omega arith in
    class_row b c.args.numbers.now p k c.args.i x at c.of.result c.type_or_none.result c.string_or_none.result c.args.places.list c.args.places.class_data c.args.places.array c.args.rows.now.items c.push_words.new.out.items there above written
    (omega arith) (subst (λ (f : ℕ). f < 2 ^ 32) c.class_word-2.ensures flags) (omega arith) (omega arith) (omega arith) (omega arith) (omega arith) words)
    c.push_words.ensures.ok
