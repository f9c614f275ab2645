use Rattle.std.proofs.Common.{◌≡◌, ◌+◌, ◌≤◌, suc, length, map, take, drop, get_or, ap, sym, ◌∙◌, arith, refl, subst, add-one, List, ℕ}
use Rattle.std.proofs.lemmas.List.{length-map}
use Rattle.file_layout.proofs.SectionLaws.{Laying-start}
use Rattle.file_layout.specs.inner.Sections.{AddsSome}
use Rattle.tables_names.specs.Closure.{NameRanks}
use Rattle.program_types.specs.View as view
use Rattle.file_put.proofs.MentionLaws.{fields_count, methods_count, next_members}
use Rattle.file_put.specs.inner.Named.{fields_of, methods_of}
use Rattle.tables_names.specs.Noted.{AreRanks}
use Rattle.file_put.proofs.LayingLaws.{items_few, laid_all, placed_more, room_at}
use Rattle.file_put.proofs.NumberLaws.{no_class}
use Rattle.file_put.proofs.SitedLaws.{length-sited, rest_after, room_of_sited}
use Rattle.file_put.proofs.SitedSteps.{count_in, rest_enough, rest_next, sited_at, no_sited}
use Rattle.file_put.specs.inner.Data.{PacksData, ClassWithCodes, has_no_members, with_code_places, wide_with_codes}
use Rattle.file_put.proofs.class_data.put_datas.Goals as goal
use Rattle.dex_base.proofs.ListFacts.{map_at}

pub loop-class-init : goal.loop-class-init
loop-class-init c = (
  rw (c.new-placed.ensures.places, c.new-placed.ensures.items) (Laying-start has_no_members (PacksData (NameRanks c.args.ranks.now)) 1 wide_with_codes c.args.out.now.items (with_code_places (map view.class c.args.program.now.classes.now) c.args.codes.now)),
  refl,
  c.requires.indices,
)

pub split_at-requires : goal.split_at-requires
split_at-requires c =
    let next = next_members c.args.ranks.now c.args.program.now.classes.now c.loop-class.class-index no_class c.loop-class.members.now c.loop-class-test.true c.loop-class.invariant.2 in
    let m = fields_count (get_or c.args.program.now.classes.now c.loop-class.class-index no_class) in
    omega (arith, next.0, m)

pub split_at-requires-in-loop-class : goal.split_at-requires-in-loop-class
split_at-requires-in-loop-class c =
    let next = next_members c.args.ranks.now c.args.program.now.classes.now c.loop-class.class-index no_class c.loop-class.members.now c.loop-class-test.true c.loop-class.invariant.2 in
    let k = get_or c.args.program.now.classes.now c.loop-class.class-index no_class in
    let m = fields_count k in
    let n = methods_count k in
    let cut = ap length (c.split_at.ensures.back ∙ ap (λ (j : ℕ). drop j c.loop-class.members.now) (sym m)) in
    omega (arith, next.2, n, cut)

pub split_at-requires-in-loop-class-2 : goal.split_at-requires-in-loop-class-2
split_at-requires-in-loop-class-2 c =
    let cs = c.args.program.now.classes.now in
    let e = rest_enough (map view.class cs) c.args.codes.now c.loop-class.class-index _ (map_at view.class cs c.loop-class.class-index no_class c.loop-class-test.true) c.requires.codes in
    let n = count_in (get_or cs c.loop-class.class-index no_class) in
    let r = ap length c.loop-class.invariant.1 in
    omega (arith, e, n, r)

pub add_data-requires-clause-fields : goal.add_data-requires-clause-fields
add_data-requires-clause-fields c =
    let next = next_members c.args.ranks.now c.args.program.now.classes.now c.loop-class.class-index no_class c.loop-class.members.now c.loop-class-test.true c.loop-class.invariant.2 in
    let k = get_or c.args.program.now.classes.now c.loop-class.class-index no_class in
    subst (AreRanks c.args.ranks.now (fields_of (view.class k))) (sym (c.split_at.ensures.front ∙ ap (λ (j : ℕ). take j c.loop-class.members.now) (sym (fields_count k)))) next.1

pub add_data-requires-clause-methods : goal.add_data-requires-clause-methods
add_data-requires-clause-methods c =
    let next = next_members c.args.ranks.now c.args.program.now.classes.now c.loop-class.class-index no_class c.loop-class.members.now c.loop-class-test.true c.loop-class.invariant.2 in
    let k = get_or c.args.program.now.classes.now c.loop-class.class-index no_class in
    let others = c.split_at.ensures.back ∙ ap (λ (j : ℕ). drop j c.loop-class.members.now) (sym (fields_count k)) in
    subst (AreRanks c.args.ranks.now (methods_of (view.class k))) (sym (c.split_at-in-loop-class.ensures.front ∙ ap (λ (l : List ℕ). take (length k.directs.now + length k.virtuals.now) l) others ∙ ap (λ (j : ℕ). take j (drop (length (fields_of (view.class k))) c.loop-class.members.now)) (sym (methods_count k)))) next.3

pub add_data-requires-clause-rise : goal.add_data-requires-clause-rise
add_data-requires-clause-rise c = c.requires.rise c.loop-class.class-index _ (map_at view.class c.args.program.now.classes.now c.loop-class.class-index _ c.loop-class-test.true)

pub add_data-requires-clause-room : goal.add_data-requires-clause-room
add_data-requires-clause-room c =
    let cs = c.args.program.now.classes.now in
    let codes = c.args.codes.now in
    let i = c.loop-class.class-index in
    let n = length-sited (map view.class cs) codes in
    let m = length-map cs view.class in
    let w = room_at wide_with_codes (with_code_places (map view.class cs) codes) i no_sited (omega (arith, n, m, c.loop-class-test.true)) in
    let e = ap wide_with_codes (sited_at (map view.class cs) codes i _ no_sited (map_at view.class cs i no_class c.loop-class-test.true)) in
    let a = room_of_sited (map view.class cs) codes in
    let b = c.loop-class.invariant.0.bound in
    omega (arith, w, e, a, b, c.requires.room)

pub add-requires : goal.add-requires
add-requires c =
    let f = items_few has_no_members (PacksData (NameRanks c.args.ranks.now)) 1 wide_with_codes _ _ _ _ _ _ _ c.loop-class.invariant.0 in
    let a = room_of_sited (map view.class c.args.program.now.classes.now) c.args.codes.now in
    let b = c.loop-class.invariant.0.bound in
    omega (arith, f, a, b, c.requires.room, c.requires.front)

pub loop-class-preserved : goal.loop-class-preserved
loop-class-preserved c =
    let cs = c.args.program.now.classes.now in
    let codes = c.args.codes.now in
    let i = c.loop-class.class-index in
    let s : i + 1 ≡ suc i = omega arith in
    let n = length-sited (map view.class cs) codes in
    let m = length-map cs view.class in
    let count = count_in (get_or cs i no_class) in
    let at = map_at view.class cs i no_class c.loop-class-test.true in
    let own = sited_at (map view.class cs) codes i _ no_sited at in
    let same : record { class = view.class (get_or cs i no_class); codes = c.split_at-in-loop-class-2.result.0.now } ≡ get_or (with_code_places (map view.class cs) codes) i no_sited =
    sym (own ∙ ap (λ l. record { class = view.class (get_or cs i no_class); codes = l }) (ap (λ k. take k (rest_after (map view.class cs) codes i)) count ∙ ap (take _) (sym c.loop-class.invariant.1) ∙ sym c.split_at-in-loop-class-2.ensures.front)) in
    let adds = subst (λ (v : ClassWithCodes). AddsSome has_no_members (PacksData (NameRanks c.args.ranks.now)) 1 c.loop-class.out.items c.add_data.new.out.items v c.in_ok-place.place) same c.in_ok-place.ensures.ok in
    let bound = subst (λ (v : ClassWithCodes). length c.add_data.new.out.items ≤ length c.loop-class.out.items + wide_with_codes v) same c.in_ok-place.ensures.bound in (
      placed_more has_no_members (PacksData (NameRanks c.args.ranks.now)) 1 wide_with_codes _ _ _ (with_code_places (map view.class cs) codes) i no_sited _ _ _ _ _ (omega (arith, n, m, c.loop-class-test.true)) c.loop-class.invariant.0 c.requires.front
          adds bound c.in_ok-add.ensures.places c.in_ok-add.ensures.items,
      c.split_at-in-loop-class-2.ensures.back ∙ ap (drop _) c.loop-class.invariant.1 ∙ ap (λ k. drop k (rest_after (map view.class cs) codes i)) (sym count) ∙ sym (rest_next (map view.class cs) codes i _ at) ∙ ap (rest_after (map view.class cs) codes) (sym s),
      (
          let k = get_or cs i no_class in
          let next = next_members c.args.ranks.now cs i no_class c.loop-class.members.now c.loop-class-test.true c.loop-class.invariant.2 in
          let others = c.split_at.ensures.back ∙ ap (λ (j : ℕ). drop j c.loop-class.members.now) (sym (fields_count k)) in
          let after = c.split_at-in-loop-class.ensures.back ∙ ap (λ (l : List ℕ). drop (length k.directs.now + length k.virtuals.now) l) others ∙ ap (λ (j : ℕ). drop j (drop (length (fields_of (view.class k))) c.loop-class.members.now)) (sym (methods_count k)) in
          rw (add-one, after) next.4
          ),
    )

pub returns-clause-ok : goal.returns-clause-ok
returns-clause-ok c =
    let cs = c.args.program.now.classes.now in
    let n = length-sited (map view.class cs) c.args.codes.now in
    let m = length-map cs view.class in
    laid_all has_no_members (PacksData (NameRanks c.args.ranks.now)) 1 wide_with_codes _ _ (with_code_places (map view.class cs) c.args.codes.now) c.loop-class.class-index _ _ (omega (arith, n, m, c.loop-class-test.false)) c.loop-class.invariant.0
