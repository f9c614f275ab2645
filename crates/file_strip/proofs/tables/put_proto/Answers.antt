use Rattle.std.proofs.Common.{true≢false, refl, ◌≡◌, ◌<◌, ◌∷◌, [], ℕ, length, get_or, sym, subst, ◌∙◌, arith, slice_get, Some}
use Rattle.std.proofs.lemmas.Result.{on_ok_weaker}
use Rattle.std.proofs.lemmas.Option.{slice_get_within}
use Rattle.dex_base.specs.Words.{words_bytes}
use Rattle.dex_container.specs.Layout.{size_of}
use Rattle.file_put.specs.inner.Rows.{SpellsProtoRow}
use Rattle.tables_names.specs.Needed.{needed}
use Rattle.file_strip.proofs.KeepLaws.{number_is, numbers_long, same_lengths}
use Rattle.file_strip.proofs.TableLaws.{kept_proto, proto_row, ranked_within, proto_kept, proto_not_kept}
use Rattle.file_strip.proofs.tables.put_proto.Goals as goal

pub keeps_proto-requires : goal.keeps_proto-requires
keeps_proto-requires c =
    let k = c.requires.kept.1 in
    let n = numbers_long (size_of c.args.sections.now 2) k.marks.columns.protos c.args.numbers.now.protos k.marked.protos.shape k.numbered.protos in
    omega (arith, n, c.requires.row)

pub returns-then-not-keeps_proto-clause-ok : goal.returns-then-not-keeps_proto-clause-ok
returns-then-not-keeps_proto-clause-ok c = λ p old k a.
    let b = c.args.sections.now in
    proto_not_kept (needed p) c.args.places.now (size_of b 2) k.marks.columns.protos c.args.numbers.now.protos k.marked.protos.shape k.numbered.protos (c.requires.kept.2 ∙ (same_lengths b c.args.numbers.now c.requires.kept.0 p c.requires.kept.1 k).1) old c.args.rows.now.items c.args.i c.requires.row (λ is. true≢false (sym (c.if-not-keeps_proto.ensures.1 is))) a

pub proto-requires : goal.proto-requires
proto-requires c = let row = kept_proto c.args.sections.now c.args.numbers.now c.requires.kept.0 c.requires.kept.1 c.args.i c.requires.row (c.if-not-keeps_proto.ensures.0 refl) in row.within

pub bounds-places-proto : goal.bounds-places-proto
bounds-places-proto c =
    let row = kept_proto c.args.sections.now c.args.numbers.now c.requires.kept.0 c.requires.kept.1 c.args.i c.requires.row (c.if-not-keeps_proto.ensures.0 refl) in
    let w = slice_get_within (needed c.requires.kept.0).protos _ _ row.at in
    let e = number_is c.args.numbers.now.protos c.args.i c.proto.result c.proto.ensures in
    omega (arith, w, e, c.requires.kept.2)

pub of-shorty-requires : goal.of-shorty-requires
of-shorty-requires c =
    let row = kept_proto c.args.sections.now c.args.numbers.now c.requires.kept.0 c.requires.kept.1 c.args.i c.requires.row (c.if-not-keeps_proto.ensures.0 refl) in
    subst (λ (n : ℕ). n < length c.args.numbers.now.strings) (sym c.proto_shorty.ensures) (ranked_within c.args.numbers.now.strings _ _ _ row.short)

pub of-ret-requires : goal.of-ret-requires
of-ret-requires c =
    let row = kept_proto c.args.sections.now c.args.numbers.now c.requires.kept.0 c.requires.kept.1 c.args.i c.requires.row (c.if-not-keeps_proto.ensures.0 refl) in
    subst (λ (n : ℕ). n < length c.args.numbers.now.types) (sym c.proto_return.ensures) (ranked_within c.args.numbers.now.types _ _ _ row.ret)

pub returns-clause-ok : goal.returns-clause-ok
returns-clause-ok c =
    on_ok_weaker c.push_words.result
    (λ w p old k a.
    let b = c.args.sections.now in
    let row = kept_proto b c.args.numbers.now p k c.args.i c.requires.row (c.if-not-keeps_proto.ensures.0 refl) in
    let e : get_or c.args.numbers.now.protos c.args.i 0 ≡ c.proto.result = number_is c.args.numbers.now.protos c.args.i c.proto.result c.proto.ensures in
    let spelled = proto_row b c.args.numbers.now (needed p) c.args.i c.of-shorty.result c.of-ret.result (get_or c.args.places.now c.proto.result 0) row
    (subst (λ (n : ℕ). slice_get c.args.numbers.now.strings n ≡ Some c.of-shorty.result) c.proto_shorty.ensures c.of-shorty.ensures) (subst (λ (n : ℕ). slice_get c.args.numbers.now.types n ≡ Some c.of-ret.result) c.proto_return.ensures c.of-ret.ensures) (omega arith) (omega arith) (omega arith) in
    proto_kept (needed p) c.args.places.now (size_of b 2) k.marks.columns.protos c.args.numbers.now.protos k.marked.protos.shape k.numbered.protos (c.requires.kept.2 ∙ (same_lengths b c.args.numbers.now c.requires.kept.0 p c.requires.kept.1 k).1)
    old c.args.rows.now.items c.push_words.new.out.items (words_bytes (c.of-shorty.result ∷ c.of-ret.result ∷ get_or c.args.places.now c.proto.result 0 ∷ [])) c.args.i row.name c.requires.row (c.if-not-keeps_proto.ensures.0 refl) row.at w
    (subst (λ (n : ℕ). SpellsProtoRow (needed p) (words_bytes (c.of-shorty.result ∷ c.of-ret.result ∷ get_or c.args.places.now c.proto.result 0 ∷ [])) (get_or c.args.places.now n 0, row.name)) (sym e) spelled) a)
    c.push_words.ensures.ok
