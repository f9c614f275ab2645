use Rattle.std.proofs.Common.{◌≡◌, ◌+◌, length, map, take, drop, ap, sym, ◌∙◌, arith, refl, subst, List, [], ℕ}
use Rattle.std.proofs.lemmas.List.{length-map, take_all, drop_all}
use Rattle.dex_base.specs.Mutf8.{PacksText}
use Rattle.program_types.specs.View.{str}
use Rattle.tables_names.specs.Rows.{first_of}
use Rattle.file_layout.specs.Sections.{wide_all}
use Rattle.file_layout.specs.inner.Sections.{never, Laying}
use Rattle.file_layout.proofs.SectionLaws.{Laying-start, Laying-more}
use Rattle.file_limits.specs.inner.Wide.{wide_text}
use Rattle.program_types.specs.Key.{text_key}
use Rattle.file_layout.specs.inner.Tiles.{AreShared}
use Rattle.file_put.proofs.ApartLaws.{texts_shared}
use Rattle.file_put.proofs.LengthLaws.{map_drop}
use Rattle.file_put.proofs.TextLaws.{no_str, texts_of_keys, strings_room}
use Rattle.file_put.proofs.texts.put_strings.Goals as goal
use Rattle.file_limits.proofs.PartLaws.{map_map}
use Rattle.dex_base.proofs.ListFacts.{map_more}

pub loop-text-init : goal.loop-text-init
loop-text-init c = rw c.in_ok-places.ensures.items (Laying-start never PacksText 1 wide_text _ _)

pub add_string-requires : goal.add_string-requires
add_string-requires c =
    let xs = c.strings-texts.result.now in
    let i = c.loop-text.text-index in
    let same = sym (ap (map first_of) c.strings-texts.ensures) ∙ texts_of_keys xs in
    let w = ap (wide_all wide_text) same in
    let d = ap (wide_all wide_text) (map_drop str xs i no_str c.loop-text-test.true) in
    let b = c.loop-text.invariant.bound in
    omega (arith, w, d, b, c.requires.room)

pub loop-text-preserved : goal.loop-text-preserved
loop-text-preserved c =
    let xs = c.strings-texts.result.now in
    let i = c.loop-text.text-index in
    rw (map_more str xs i no_str c.loop-text-test.true, c.in_ok-push.ensures.items)
    (Laying-more never PacksText 1 wide_text _ _ _ _ _ _ _ _ _ i (i + 1) (rw (map_drop str xs i no_str c.loop-text-test.true) at c.loop-text.invariant) c.requires.front c.in_ok-place.ensures.ok c.in_ok-place.ensures.bound refl)

pub overflow_cast-result : goal.overflow_cast-result
overflow_cast-result c =
    let xs = c.strings-texts.result.now in
    let same = sym (ap (map first_of) c.strings-texts.ensures) ∙ texts_of_keys xs in
    let w = ap (wide_all wide_text) same in
    let r = strings_room (map str xs) in
    let n = length-map xs str in
    omega (arith, w, r, n, c.requires.room)

pub returns-clause-ok : goal.returns-clause-ok
returns-clause-ok c =
    let xs = c.strings-texts.result.now in
    let i = c.loop-text.text-index in
    let same = sym (ap (map first_of) c.strings-texts.ensures) ∙ texts_of_keys xs in
    let e : i ≡ length xs = omega (arith, c.loop-text-test.false, c.loop-text.auto.text-index-end) in
    let all : map str (take i xs) ≡ map str xs = ap (map str) (take_all i xs (omega (arith, e))) in
    let none : map str (drop i xs) ≡ [] = ap (map str) (drop_all i xs (omega (arith, e))) in
    let l = subst (λ (rest : List (List ℕ)). Laying never PacksText 1 wide_text c.args.out.now.items c.loop-text.out.items (map str xs) rest (map str xs) c.loop-text.places.items i) none
    (subst (λ (done : List (List ℕ)). Laying never PacksText 1 wide_text c.args.out.now.items c.loop-text.out.items done (map str (drop i xs)) (map str xs) c.loop-text.places.items i) all c.loop-text.invariant) in
    subst (λ (vs : List (List ℕ)). Laying never PacksText 1 wide_text c.args.out.now.items c.loop-text.out.items vs [] vs c.loop-text.places.items (length xs)) (sym same)
    (subst (λ (n : ℕ). Laying never PacksText 1 wide_text c.args.out.now.items c.loop-text.out.items (map str xs) [] (map str xs) c.loop-text.places.items n) e l)

pub returns-clause-once : goal.returns-clause-once
returns-clause-once c =
    let xs = c.strings-texts.result.now in
    let same = sym (ap (map first_of) c.strings-texts.ensures) ∙ texts_of_keys xs in
    subst (λ (vs : List (List ℕ)). AreShared c.loop-text.places.items vs) (sym same)
    (texts_shared c.args.ranks.now.strings c.rise.ensures.strings (map str xs) c.loop-text.places.items (map_map text_key str xs ∙ c.strings-texts.ensures))
