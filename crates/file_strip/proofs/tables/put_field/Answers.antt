use Rattle.std.proofs.Common.{true≢false, refl, ◌≡◌, ◌<◌, ℕ, length, sym, subst, ◌∙◌, arith, slice_get, Some}
use Rattle.std.proofs.lemmas.Result.{on_ok_weaker}
use Rattle.dex_container.specs.Layout.{size_of}
use Rattle.file_put.specs.inner.Rows.{SpellsFieldRow}
use Rattle.program_types.specs.Key.{field_ref_key}
use Rattle.tables_names.specs.Needed.{needed}
use Rattle.file_strip.proofs.KeepLaws.{numbers_long, few_types}
use Rattle.file_strip.proofs.TableLaws.{kept_field, field_row, ranked_within, rank_small, row_kept, row_not_kept}
use Rattle.file_strip.proofs.tables.put_field.Goals as goal

pub keeps-requires : goal.keeps-requires
keeps-requires c =
    let k = c.requires.kept.1 in
    let n = numbers_long (size_of c.args.sections.now 3) k.marks.columns.fields c.args.numbers.now.fields k.marked.fields.shape k.numbered.fields in
    omega (arith, n, c.requires.row)

pub returns-then-not-keeps-clause-ok : goal.returns-then-not-keeps-clause-ok
returns-then-not-keeps-clause-ok c = λ p old k a.
    let b = c.args.sections.now in
    row_not_kept field_ref_key (SpellsFieldRow (needed p)) (size_of b 3) k.marks.columns.fields c.args.numbers.now.fields k.marked.fields.shape k.numbered.fields (needed p).fields old c.args.rows.now.items c.args.i c.requires.row (λ is. true≢false (sym (c.if-not-keeps.ensures.1 is))) a

pub of-class-requires : goal.of-class-requires
of-class-requires c =
    let row = kept_field c.args.sections.now c.args.numbers.now c.requires.kept.0 c.requires.kept.1 c.args.i c.requires.row (c.if-not-keeps.ensures.0 refl) in
    subst (λ (n : ℕ). n < length c.args.numbers.now.types) (sym (c.from.ensures ∙ c.member_class.ensures)) (ranked_within c.args.numbers.now.types _ _ _ row.class)

pub of-ty-requires : goal.of-ty-requires
of-ty-requires c =
    let row = kept_field c.args.sections.now c.args.numbers.now c.requires.kept.0 c.requires.kept.1 c.args.i c.requires.row (c.if-not-keeps.ensures.0 refl) in
    subst (λ (n : ℕ). n < length c.args.numbers.now.types) (sym (c.from-2.ensures ∙ c.member_kind.ensures)) (ranked_within c.args.numbers.now.types _ _ _ row.ty)

pub of-name-requires : goal.of-name-requires
of-name-requires c =
    let row = kept_field c.args.sections.now c.args.numbers.now c.requires.kept.0 c.requires.kept.1 c.args.i c.requires.row (c.if-not-keeps.ensures.0 refl) in
    subst (λ (n : ℕ). n < length c.args.numbers.now.strings) (sym c.member_name.ensures) (ranked_within c.args.numbers.now.strings _ _ _ row.text)

pub put_member-requires-clause-class : goal.put_member-requires-clause-class
put_member-requires-clause-class c =
    let k = c.requires.kept.1 in
    let row = kept_field c.args.sections.now c.args.numbers.now c.requires.kept.0 c.requires.kept.1 c.args.i c.requires.row (c.if-not-keeps.ensures.0 refl) in
    rank_small c.args.numbers.now.types (needed c.requires.kept.0).types _ c.of-class.result _ (few_types c.args.sections.now c.args.numbers.now c.requires.kept.0 k) row.class (subst (λ (n : ℕ). slice_get c.args.numbers.now.types n ≡ Some c.of-class.result) (c.from.ensures ∙ c.member_class.ensures) c.of-class.ensures)

pub put_member-requires-clause-kind : goal.put_member-requires-clause-kind
put_member-requires-clause-kind c =
    let k = c.requires.kept.1 in
    let row = kept_field c.args.sections.now c.args.numbers.now c.requires.kept.0 c.requires.kept.1 c.args.i c.requires.row (c.if-not-keeps.ensures.0 refl) in
    rank_small c.args.numbers.now.types (needed c.requires.kept.0).types _ c.of-ty.result _ (few_types c.args.sections.now c.args.numbers.now c.requires.kept.0 k) row.ty (subst (λ (n : ℕ). slice_get c.args.numbers.now.types n ≡ Some c.of-ty.result) (c.from-2.ensures ∙ c.member_kind.ensures) c.of-ty.ensures)

pub returns-clause-ok : goal.returns-clause-ok
returns-clause-ok c =
    on_ok_weaker c.put_member.result
    (λ w p old k a.
    let b = c.args.sections.now in
    let row = kept_field b c.args.numbers.now p k c.args.i c.requires.row (c.if-not-keeps.ensures.0 refl) in
    let class = subst (λ (n : ℕ). slice_get c.args.numbers.now.types n ≡ Some c.of-class.result) (c.from.ensures ∙ c.member_class.ensures) c.of-class.ensures in
    let other = subst (λ (n : ℕ). slice_get c.args.numbers.now.types n ≡ Some c.of-ty.result) (c.from-2.ensures ∙ c.member_kind.ensures) c.of-ty.ensures in
    let name = subst (λ (n : ℕ). slice_get c.args.numbers.now.strings n ≡ Some c.of-name.result) c.member_name.ensures c.of-name.ensures in
    row_kept field_ref_key (SpellsFieldRow (needed p)) (size_of b 3) k.marks.columns.fields c.args.numbers.now.fields k.marked.fields.shape k.numbered.fields (needed p).fields old c.args.rows.now.items c.put_member.new.rows.items _ c.args.i row.name c.requires.row (c.if-not-keeps.ensures.0 refl) row.at w
    (field_row b c.args.numbers.now (needed p) c.args.i c.of-class.result c.of-ty.result c.of-name.result row class other name
    (rank_small c.args.numbers.now.types (needed p).types _ c.of-class.result _ (few_types b c.args.numbers.now p k) row.class class) (rank_small c.args.numbers.now.types (needed p).types _ c.of-ty.result _ (few_types b c.args.numbers.now p k) row.ty other) (omega arith)) a)
    c.put_member.ensures.ok
