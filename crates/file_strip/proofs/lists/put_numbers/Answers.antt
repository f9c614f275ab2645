use Rattle.std.proofs.Common.{◌≡◌, ◌<◌, ℕ, [], length, get_or, refl, sym, subst, ◌∙◌, arith, slice_get, Some}
use Rattle.std.proofs.lemmas.List.{take_all}
use Rattle.std.proofs.lemmas.Option.{slice_get_within}
use Rattle.std.proofs.lemmas.Slice.{pushed}
use Rattle.dex_base.specs.Fields.{u16_bytes}
use Rattle.program_types.specs.Key.{text_key}
use Rattle.tables_names.specs.Rank.{IsAt}
use Rattle.tables_rows.specs.inner.Halves.{halves}
use Rattle.tables_rows.proofs.HalvesLaws.{u16_at-halves}
use Rattle.file_put.proofs.RankedLists.{indices_none}
use Rattle.file_put.specs.inner.Lists.{AddsIndices}
use Rattle.file_strip.proofs.ListLaws.{ranked_at, ranked_long, indices_next}
use Rattle.file_strip.proofs.lists.put_numbers.Goals as goal
use Rattle.dex_base.proofs.ListFacts.{some_one}

pub loop-j-init : goal.loop-j-init
loop-j-init c = λ s ts r. indices_none s c.args.out.now.items

pub of-number-requires : goal.of-number-requires
of-number-requires c =
    let numbers = c.args.numbers.now in
    let xs = halves c.args.indexes.now in
    let lt : c.loop-j.j < length xs = omega (arith, c.loop-j-test.true, c.requires.even) in
    let r = ranked_at numbers c.requires.ranked.0 xs c.requires.ranked.1 c.loop-j.j lt c.requires.ranked.2 in
    subst (λ (n : ℕ). n < length numbers.types) (sym (c.from.ensures ∙ c.u16_at.ensures ∙ u16_at-halves c.args.indexes.now c.loop-j.j lt)) (slice_get_within numbers.types (get_or xs c.loop-j.j 0) r.0 r.1)

pub overflow_cast-number : goal.overflow_cast-number
overflow_cast-number c =
    let numbers = c.args.numbers.now in
    let s = c.requires.ranked.0 in
    let xs = halves c.args.indexes.now in
    let lt : c.loop-j.j < length xs = omega (arith, c.loop-j-test.true, c.requires.even) in
    let r = ranked_at numbers s xs c.requires.ranked.1 c.loop-j.j lt c.requires.ranked.2 in
    let there = subst (λ (n : ℕ). slice_get numbers.types n ≡ Some c.of-number.result) (c.from.ensures ∙ c.u16_at.ensures ∙ u16_at-halves c.args.indexes.now c.loop-j.j lt) c.of-number.ensures in
    let same = some_one (slice_get numbers.types (get_or xs c.loop-j.j 0)) r.0 c.of-number.result r.1 there in
    omega (arith, same, r.3)

pub loop-j-preserved : goal.loop-j-preserved
unfolding u16_bytes
loop-j-preserved c = λ s ts x.
    let numbers = c.args.numbers.now in
    let xs = halves c.args.indexes.now in
    let j = c.loop-j.j in
    let lt : j < length xs = omega (arith, c.loop-j-test.true, c.requires.even) in
    let r = ranked_at numbers s xs ts j lt x in
    let there = subst (λ (n : ℕ). slice_get numbers.types n ≡ Some c.of-number.result) (c.from.ensures ∙ c.u16_at.ensures ∙ u16_at-halves c.args.indexes.now j lt) c.of-number.ensures in
    let same = some_one (slice_get numbers.types (get_or xs j 0)) r.0 c.of-number.result r.1 there in
    let bytes : c.to_le_bytes.result ≡ u16_bytes c.of-number.result = c.to_le_bytes.ensures in
    indices_next s c.args.out.now.items _ _ c.to_le_bytes.result c.of-number.result ts j r.4 (c.loop-j.invariant s ts x) (pushed c.to_le_bytes.result refl c.in_ok-extend_from_slice.was c.extend_from_slice.ensures.items) bytes (omega (arith, same, r.3))
    (subst (λ (n : ℕ). IsAt s.types n (text_key (get_or ts j []))) same r.2)

pub returns-clause-ok : goal.returns-clause-ok
returns-clause-ok c = λ s ts r.
    let long = ranked_long c.args.numbers.now s (halves c.args.indexes.now) ts r in
    subst (AddsIndices s c.args.out.now.items c.loop-j.out.items) (take_all c.loop-j.j ts (omega (arith, long, c.loop-j-test.false, c.requires.even))) (c.loop-j.invariant s ts r)
