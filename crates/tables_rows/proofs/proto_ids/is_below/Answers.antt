use Rattle.std.proofs.Common.{◌≡◌, refl, sym, ap, subst, ◌∙◌, true≢false, nat_cmp, ◌∷◌}
use Rattle.std.specs.Cmp.Lexicographic.{slice_cmp}
use Rattle.tables_rows.specs.inner.Halves.{halves}
use Rattle.tables_rows.specs.RowFields.{proto_return}
use Rattle.tables_rows.specs.Stands.{SpellsIndexes}
use Rattle.dex_container.specs.Where.{AtOrNone}
use Rattle.tables_rows.proofs.TypeLists.{protos_below, below_protos}
use Rattle.tables_rows.proofs.proto_ids.is_below.Goals as goal

pub returns-in-Less : goal.returns-in-Less
returns-in-Less c =
    let b = c.args.sections.now in
    let xs = halves c.in-Some.a.now in
    let ys = halves c.in-Some-indexes_or_none.b.now in
    let at_i = subst (λ n. AtOrNone SpellsIndexes b 0x1001 4 n xs) c.proto_parameters.ensures c.in-Some.ensures.some in
    let at_j = subst (λ n. AtOrNone SpellsIndexes b 0x1001 4 n ys) c.proto_parameters-2.ensures c.in-Some-indexes_or_none.ensures.some in
    let order : c.cmp_keys.result ≡ slice_cmp nat_cmp (proto_return b c.args.i ∷ xs) (proto_return b c.args.j ∷ ys) =
    c.cmp_keys.ensures ∙ ap (λ n. slice_cmp nat_cmp (n ∷ xs) (c.proto_return-second.result ∷ ys)) c.proto_return-first.ensures ∙ ap (λ n. slice_cmp nat_cmp (proto_return b c.args.i ∷ xs) (n ∷ ys)) c.proto_return-second.ensures in
    (λ _. protos_below b c.requires.framed c.args.i c.args.j xs ys at_i at_j (sym order ∙ c.in-Less.is), λ _. refl)

pub returns-in_default-matches : goal.returns-in_default-matches
returns-in_default-matches c =
    let b = c.args.sections.now in
    let xs = halves c.in-Some.a.now in
    let ys = halves c.in-Some-indexes_or_none.b.now in
    let at_i = subst (λ n. AtOrNone SpellsIndexes b 0x1001 4 n xs) c.proto_parameters.ensures c.in-Some.ensures.some in
    let at_j = subst (λ n. AtOrNone SpellsIndexes b 0x1001 4 n ys) c.proto_parameters-2.ensures c.in-Some-indexes_or_none.ensures.some in
    let order : c.cmp_keys.result ≡ slice_cmp nat_cmp (proto_return b c.args.i ∷ xs) (proto_return b c.args.j ∷ ys) =
    c.cmp_keys.ensures ∙ ap (λ n. slice_cmp nat_cmp (n ∷ xs) (c.proto_return-second.result ∷ ys)) c.proto_return-first.ensures ∙ ap (λ n. slice_cmp nat_cmp (proto_return b c.args.i ∷ xs) (n ∷ ys)) c.proto_return-second.ensures in
    (λ f. absurd (true≢false (sym f)), λ below. absurd (c.in_default-matches.not-Less (order ∙ below_protos b c.requires.framed c.args.i c.args.j xs ys at_i at_j below)))
