use Rattle.std.proofs.Common.{◌≡◌, ◌<◌, ◌∙◌, ℕ, List, length, get_or, arith, ap, subst, refl}
use Rattle.std.proofs.lemmas.List.{length-map}
use Rattle.std.proofs.lemmas.Grind.{get_or_default_zero}
use Rattle.dex_base.proofs.ShortestLaws.{AllBytes}
use Rattle.tables_names.specs.Closure.{NameRanks}
use Rattle.code_write.proofs.ListedLaws.{seen}
use Rattle.code_write.proofs.LaidLaws.{SomeOffsets, laid, listed-few, number-inside, offset-more, length-places}
use Rattle.code_write.proofs.handlers.lay_distinct.Goals as goal

pub list_of-requires-clause-few : goal.list_of-requires-clause-few
list_of-requires-clause-few c =
    let f = c.requires.3.distinct.few in let n = c.requires.3.few in
    omega (arith, f, n, length-map c.args.distinct.now.handlers.keys (λ v. v.items))

pub list_of-requires-clause-short : goal.list_of-requires-clause-short
list_of-requires-clause-short c =
    listed-few (NameRanks c.requires.0) c.requires.1 c.requires.2 (seen c.args.distinct.now.handlers.keys) c.args.distinct.now.numbers.items (length c.requires.2)
    refl c.requires.3.distinct c.requires.3.short

pub loop-number-init : goal.loop-number-init
loop-number-init c = record { count = ap length c.in_ok-offsets.ensures.items; each = λ i l. absurd (omega arith) }

pub index-requires : goal.index-requires
index-requires c =
    let d = c.requires.3.distinct in
    let v = c.deref-number-items.ensures.value in
    let k = d.count in
    let n : c.loop-number.number-index < length c.requires.2 = omega (arith, k, ap length v) in
    let i = number-inside (NameRanks c.requires.0) c.requires.1 c.requires.2 (seen c.args.distinct.now.handlers.keys) c.args.distinct.now.numbers.items (length c.requires.2) c.loop-number.number-index d n in
    let w : get_or c.deref-number-items.result.now c.loop-number.number-index 0 ≡ get_or c.args.distinct.now.numbers.items c.loop-number.number-index 0 = ap (λ (l : List ℕ). get_or l c.loop-number.number-index 0) v in
    let l : length c.in_ok-list.list.places.items ≡ length (seen c.args.distinct.now.handlers.keys) = ap length c.in_ok-list.ensures.ok.places_are ∙ length-places _ (seen c.args.distinct.now.handlers.keys) in
    omega (arith, i, w, l)

pub loop-number-preserved : goal.loop-number-preserved
loop-number-preserved c =
    let d = c.requires.3.distinct in
    let v = c.deref-number-items.ensures.value in
    let k = d.count in
    let n : c.loop-number.number-index < length c.requires.2 = omega (arith, k, ap length v) in
    let i = number-inside (NameRanks c.requires.0) c.requires.1 c.requires.2 (seen c.args.distinct.now.handlers.keys) c.args.distinct.now.numbers.items (length c.requires.2) c.loop-number.number-index d n in
    let w : get_or c.deref-number-items.result.now c.loop-number.number-index 0 ≡ get_or c.args.distinct.now.numbers.items c.loop-number.number-index 0 = ap (λ (l : List ℕ). get_or l c.loop-number.number-index 0) v in
    let l : length c.in_ok-list.list.places.items ≡ length (seen c.args.distinct.now.handlers.keys) = ap length c.in_ok-list.ensures.ok.places_are ∙ length-places _ (seen c.args.distinct.now.handlers.keys) in
    let number = get_or c.deref-number-items.result.now c.loop-number.number-index 0 in
    let at : c.index.result.now ≡ get_or c.in_ok-list.list.places.items number 0 = c.index.ensures ∙ get_or_default_zero c.in_ok-list.list.places.items number _ (omega (arith, i, w, l)) in
    offset-more c.in_ok-list.list.places.items c.deref-number-items.result.now c.loop-number.offsets.items _ c.loop-number.number-index c.index.result.now c.loop-number.invariant at c.in_ok-push.ensures.items

pub returns-clause-ok : goal.returns-clause-ok
returns-clause-ok c = λ s ss ts x.
    let d = x.distinct in
    let v = c.deref-number-items.ensures.value in
    let k = d.count in
    let t : SomeOffsets c.in_ok-list.list.places.items c.args.distinct.now.numbers.items c.loop-number.offsets.items c.loop-number.number-index =
    subst (λ (l : List ℕ). SomeOffsets c.in_ok-list.list.places.items l c.loop-number.offsets.items c.loop-number.number-index) v c.loop-number.invariant in
    let n = t.count in
    let e : c.loop-number.number-index ≡ length c.args.distinct.now.numbers.items = omega (arith, ap length v) in
    laid (NameRanks s) ss ts (seen c.args.distinct.now.handlers.keys) c.args.distinct.now.numbers.items c.in_ok-list.list.bytes.items c.in_ok-list.list.places.items
    c.loop-number.offsets.items (length ts) refl x.some d c.in_ok-list.ensures.ok (n ∙ e) (λ i l. t.each i (omega (arith, l, e))) (subst AllBytes c.deref.ensures.value c.are_bytes.ensures.all)
