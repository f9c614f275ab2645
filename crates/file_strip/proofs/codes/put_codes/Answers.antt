use Rattle.std.proofs.Common.{◌+◌, ◌<◌, ◌^◌, List, Option, length, sym, subst, arith}
use Rattle.file_layout.specs.Sections.{wide_all}
use Rattle.file_layout.specs.inner.Sections.{Laid}
use Rattle.file_layout.specs.inner.Tiles.{AreShared}
use Rattle.file_limits.specs.Wide.{wide_body}
use Rattle.file_put.specs.inner.Codes.{PacksBody, is_bodiless}
use Rattle.program_types.specs.Content.{Code}
use Rattle.tables_names.specs.Closure.{NameRanks}
use Rattle.tables_names.specs.Needed.{needed}
use Rattle.file_strip.specs.inner.Bodies.{AreOwned, numbered}
use Rattle.file_strip.specs.declared.codes.PlacedBody.{PlacedBody}
use Rattle.file_strip.proofs.FarLaws.{first_class, none_far}
use Rattle.file_strip.proofs.GatherLaws.{alone, short_of}
use Rattle.file_strip.proofs.codes.put_codes.Goals as goal
use Rattle.dex_base.proofs.ListFacts.{passed}

pub place_bodies-requires-clause-bodies : goal.place_bodies-requires-clause-bodies
place_bodies-requires-clause-bodies c =
    let p = c.requires.kept.0 in
    let k = c.requires.kept.1 in
    let room = c.requires.kept.2 in (
      needed p,
      numbered 0 p,
      subst (λ (es : List PlacedBody). AreOwned c.args.sections.now c.args.numbers.now (needed p) es (numbered 0 p)) (sym c.deref.ensures.value) (c.in_ok-bodies.ensures.ok c.args.numbers.now p k (omega (arith, room))),
      subst (λ (vs : List (Option Code)). length c.args.out.now.items + wide_all wide_body vs < 2 ^ 32) (sym (alone p)) room,
    )

pub returns-clause-ok : goal.returns-clause-ok
returns-clause-ok c = λ p k.
    let short = short_of c.args.sections.now c.args.numbers.now c.requires.kept.0 p c.requires.kept.1 k (length c.args.out.now.items) c.requires.kept.2 in
    let z = subst (λ (es : List PlacedBody). AreOwned c.args.sections.now c.args.numbers.now (needed p) es (numbered 0 p)) (sym c.deref.ensures.value) (c.in_ok-bodies.ensures.ok c.args.numbers.now p k short) in
    subst (λ (vs : List (Option Code)). Laid is_bodiless (PacksBody (NameRanks (needed p))) 4 wide_body c.args.out.now.items c.place_bodies.new.out.items vs c.in_ok-place_bodies.field-0.places.items c.in_ok-place_bodies.field-0.items) (alone p)
    (c.in_ok-place_bodies.ensures.ok (needed p) (numbered 0 p) z)

pub returns-clause-once : goal.returns-clause-once
returns-clause-once c = λ p k.
    let short = short_of c.args.sections.now c.args.numbers.now c.requires.kept.0 p c.requires.kept.1 k (length c.args.out.now.items) c.requires.kept.2 in
    let z = subst (λ (es : List PlacedBody). AreOwned c.args.sections.now c.args.numbers.now (needed p) es (numbered 0 p)) (sym c.deref.ensures.value) (c.in_ok-bodies.ensures.ok c.args.numbers.now p k short) in
    subst (λ (vs : List (Option Code)). AreShared c.in_ok-place_bodies.field-0.places.items vs) (alone p) (c.in_ok-place_bodies.ensures.once (needed p) (numbered 0 p) k.marked.rise z)

pub returns-clause-near : goal.returns-clause-near
returns-clause-near c = λ p k.
    let short = short_of c.args.sections.now c.args.numbers.now c.requires.kept.0 p c.requires.kept.1 k (length c.args.out.now.items) c.requires.kept.2 in
    let z = subst (λ (es : List PlacedBody). AreOwned c.args.sections.now c.args.numbers.now (needed p) es (numbered 0 p)) (sym c.deref.ensures.value) (c.in_ok-bodies.ensures.ok c.args.numbers.now p k short) in
    none_far (needed p) 0 p (c.in_ok-place_bodies.ensures.near (needed p) (numbered 0 p) z)

pub returns-in_err-place_bodies-clause-far : goal.returns-in_err-place_bodies-clause-far
returns-in_err-place_bodies-clause-far c =
    passed _ _ _ c.from_residual-in_err-place_bodies.ensures.1
    (λ ne.
    let f = c.in_err-place_bodies.ensures.far ne in (
      f.0,
      λ p k.
          let short = short_of c.args.sections.now c.args.numbers.now c.requires.kept.0 p c.requires.kept.1 k (length c.args.out.now.items) c.requires.kept.2 in
          let z = subst (λ (es : List PlacedBody). AreOwned c.args.sections.now c.args.numbers.now (needed p) es (numbered 0 p)) (sym c.deref.ensures.value) (c.in_ok-bodies.ensures.ok c.args.numbers.now p k short) in
          first_class (needed p) p _ (f.1 (needed p) (numbered 0 p) z),
    ))
