use Rattle.std.proofs.Common.{◌≡◌, ◌<◌, ◌∙◌, ℕ, List, Some, length, take, drop, get_or, sym, subst, arith}
use Rattle.std.specs.List.{flat_map}
use Rattle.std.proofs.lemmas.Grind.{get_or_default_zero}
use Rattle.dex_base.specs.Grammar.{Takes}
use Rattle.program_types.specs.Formed.{try_at}
use Rattle.program_types.specs.Mentions.{names_of_try}
use Rattle.tables_rows.specs.Stands.{NameStands}
use Rattle.file_renumber.proofs.MarkLemmas.{has_marks_after}
use Rattle.code_read.proofs.Lists.{zeros}
use Rattle.code_read.specs.Places.{Rises, position}
use Rattle.code_read.specs.inner.Handlers.{SpellsHandler}
use Rattle.code_read.specs.Item.{try_handler}
use Rattle.code_read.specs.Tries.{handler_of}
use Rattle.code_write.specs.Fits.{catches_in}
use Rattle.file_renumber.specs.inner.Marked.{AddsNames}
use Rattle.file_renumber.specs.inner.TryWalks.{ListedTries, MarksOnce}
use Rattle.file_renumber.proofs.TryLemmas.{tries_start, there, taken_at, tries_more, tries_end, as_many, number_inside, found_in, zeros_long}
use Rattle.file_renumber.proofs.tries.mark_each.Goals as goal
use Rattle.file_renumber.proofs.tries.mark_each.Goals.{After-index-offset, After-loop-i}

pub loop-i-init : goal.loop-i-init
loop-i-init c = record {
  marked = λ x. tries_start c.args.sections.now c.args.item.now.items.now c.args.list.now.offsets.items c.args.marks.now c.args.seen.now x.all.tries (zeros c.args.seen.now _ c.requires.none);
  low = omega arith;
}

pub handler_of-k-requires-clause-rises : goal.handler_of-k-requires-clause-rises
handler_of-k-requires-clause-rises c =
    subst Rises (sym c.deref.ensures.value) c.args.list.now.rise

pub handler_of-k-requires-clause-there : goal.handler_of-k-requires-clause-there
handler_of-k-requires-clause-there c =
    let B = c.args.sections.now in
    let I = c.args.item.now in
    let x = c.requires.tries in
    let lt : c.loop-i.i < I.tries = c.loop-i-test.true in
    let h = there B x.all.starts I.size I.tries I.items.now I.list.now c.args.list.now.offsets.items c.args.list.now.catches.items x.all.tries c.requires.some x.all.read x.listed c.loop-i.i lt in
    (h.number, subst (λ (os : List ℕ). position os (try_handler I.items.now c.from.result) ≡ Some h.number) (sym c.deref.ensures.value) (subst (λ (n : ℕ). position c.args.list.now.offsets.items (try_handler I.items.now n) ≡ Some h.number) (sym c.from.ensures) h.at))

pub index-offset-requires : goal.index-offset-requires
index-offset-requires c =
    let at = found_in c.args.item.now.items.now c.args.list.now.offsets.items _ c.loop-i.i _ c.handler_of-k.result c.deref.ensures.value c.from.ensures c.handler_of-k.ensures in
    let n = number_inside c.args.item.now.items.now c.args.list.now.offsets.items c.loop-i.i c.handler_of-k.result at in
    omega (arith, n)

-- the handler of the try_item is one of those of the list
module _ (c : After-index-offset) where
  at : position c.args.list.now.offsets.items (try_handler c.args.item.now.items.now c.loop-i.i) ≡ Some c.handler_of-k.result
  at = found_in c.args.item.now.items.now c.args.list.now.offsets.items _ c.loop-i.i _ c.handler_of-k.result c.deref.ensures.value c.from.ensures c.handler_of-k.ensures

  inside : c.handler_of-k.result < length c.args.list.now.offsets.items
  inside = number_inside c.args.item.now.items.now c.args.list.now.offsets.items c.loop-i.i c.handler_of-k.result at

  off : c.index-offset.result.now ≡ get_or c.args.list.now.offsets.items c.handler_of-k.result 0
  off = c.index-offset.ensures ∙ get_or_default_zero c.args.list.now.offsets.items c.handler_of-k.result _ inside

  seen_inside : c.handler_of-k.result < length c.loop-i.seen
  seen_inside = let n = inside in let m = zeros_long c.args.seen.now _ c.requires.none in let a = c.loop-i.auto.seen in omega (arith, n, m, a)

  types_inside : c.handler_of-k.result < length c.args.list.now.catches.items
  types_inside = let n = inside in let m = as_many _ c.args.list.now.offsets.items c.args.list.now.catches.items c.requires.tries.listed in omega (arith, n, m)

pub mark_once-requires-clause-marks : goal.mark_once-requires-clause-marks
mark_once-requires-clause-marks c =
    let x = c.requires.tries in
    let m = (c.loop-i.invariant.marked x).marked in
    has_marks_after c.args.sections.now c.args.marks.now c.loop-i.marks (flat_map names_of_try (take c.loop-i.i x.all.tries)) c.requires.marks m

pub mark_once-requires-clause-inside : goal.mark_once-requires-clause-inside
mark_once-requires-clause-inside c = seen_inside (goal.at.mark_once-requires-clause-inside c).After-index-offset

pub mark_once-requires-clause-handler : goal.mark_once-requires-clause-handler
mark_once-requires-clause-handler c =
    let m = (goal.at.mark_once-requires-clause-handler c).After-index-offset in
    let B = c.args.sections.now in
    let I = c.args.item.now in
    let x = c.requires.tries in
    let t = taken_at B x.all.starts I.size I.tries I.items.now I.list.now c.args.list.now.offsets.items c.args.list.now.catches.items x.all.tries c.requires.some x.all.read x.listed c.loop-i.i c.handler_of-k.result c.loop-i-test.true (at m) in
    (x.all.starts, handler_of (try_at x.all.tries c.loop-i.i), t.0, subst (λ (o : ℕ). Takes (SpellsHandler (NameStands B) x.all.starts) (drop o I.list.now) (handler_of (try_at x.all.tries c.loop-i.i)) t.0) (sym (off m)) t.1)

pub index-types-requires : goal.index-types-requires
index-types-requires c = let t = types_inside (goal.at.index-types-requires c).After-index-offset in omega (arith, t)

pub loop-i-preserved : goal.loop-i-preserved
loop-i-preserved c =
    let m = (goal.at.loop-i-preserved c).After-index-offset in
    let B = c.args.sections.now in
    let I = c.args.item.now in
    let types : c.from-catches.result ≡ get_or c.args.list.now.catches.items c.handler_of-k.result 0 = c.from-catches.ensures ∙ c.index-types.ensures ∙ get_or_default_zero c.args.list.now.catches.items c.handler_of-k.result _ (types_inside m) in
    record {
      marked = λ x.
          tries_more B x.all.starts I.size I.tries I.items.now I.list.now c.args.list.now.offsets.items c.args.list.now.catches.items x.all.tries c.requires.some x.all.read x.listed c.args.marks.now c.loop-i.marks c.mark_once.new.marks c.loop-i.seen c.mark_once.new.seen c.loop-i.catches c.from-catches.result c.loop-i.i c.handler_of-k.result
          c.loop-i-test.true (at m) (seen_inside m) types (c.loop-i.invariant.marked x) (subst (λ (o : ℕ). MarksOnce B I.list.now o c.loop-i.marks c.mark_once.new.marks c.loop-i.seen c.mark_once.new.seen c.handler_of-k.result) (off m) c.in_ok-mark_once.ensures.ok);
      low = let low = c.loop-i.invariant.low in omega (arith, low, c.from-catches.ensures);
    }

-- all tries
ended : (c : After-loop-i) (x : ListedTries c.args.sections.now c.args.item.now c.args.list.now) → AddsNames c.args.sections.now c.args.marks.now c.loop-i.marks (flat_map names_of_try x.all.tries) × (c.loop-i.catches ≡ catches_in x.all.tries)
ended c x =
    let I = c.args.item.now in
    tries_end c.args.sections.now x.all.starts I.size I.tries I.items.now I.list.now c.args.list.now.offsets.items c.args.list.now.catches.items x.all.tries c.requires.some x.all.read x.listed c.args.marks.now c.loop-i.marks c.loop-i.seen c.loop-i.catches c.loop-i.i c.loop-i-test.false (c.loop-i.invariant.marked x)

pub returns-clause-marked : goal.returns-clause-marked
returns-clause-marked c = λ x. (ended (goal.at.returns-clause-marked c).After-loop-i x).0

pub returns-clause-catches : goal.returns-clause-catches
returns-clause-catches c = λ x. (ended (goal.at.returns-clause-catches c).After-loop-i x).1
