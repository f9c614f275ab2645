use Rattle.std.proofs.Common.{◌≡◌, ◌<◌, ℕ, Some, length, map, refl, sym, subst, arith}
use Rattle.std.proofs.lemmas.List.{length-map}
use Rattle.tables_names.specs.Closure.{NameRanks}
use Rattle.code_read.proofs.Lists.{zeros}
use Rattle.code_read.specs.Places.{position}
use Rattle.code_read.specs.Item.{try_handler}
use Rattle.code_write.specs.inner.Writing.{IsDistinct}
use Rattle.code_write.proofs.HandlerOnce.{handler-once, ranks-injective, packs-unique}
use Rattle.code_write.proofs.DistinctLaws.{distinct-none, distinct-more}
use Rattle.code_write.proofs.NumberLaws.{none-held}
use Rattle.file_renumber.proofs.TryLemmas.{there, number_inside, found_in, zeros_long}
use Rattle.file_renumber.proofs.KnownLemmas.{carried_at, known_none}
use Rattle.file_renumber.proofs.tries.number_each.Goals as goal

pub loop-i-init : goal.loop-i-init
loop-i-init c = record {
  distinct = λ x. let s = x.all.names in let ss = x.all.starts in distinct-none (NameRanks s) ss x.all.tries (packs-unique s ss) (handler-once (NameRanks s) ss (ranks-injective s x.all.rise)) _ _ (none-held _ c.with_hasher-handlers.ensures.len) c.in_ok-all.ensures.items;
  known = known_none c.args.numbers.now c.args.item.now.list.now c.args.offsets.now c.args.known.now _ (zeros c.args.known.now _ c.requires.none);
}

pub handler_of-k-requires-clause-there : goal.handler_of-k-requires-clause-there
handler_of-k-requires-clause-there c =
    let I = c.args.item.now in
    let x = c.requires.tries in
    let lt : c.loop-i.i < I.tries = c.loop-i-test.true in
    let h = there x.all.file x.all.starts I.size I.tries I.items.now I.list.now c.args.offsets.now x.catches x.all.tries c.requires.some x.all.read x.listed c.loop-i.i lt in
    (h.number, subst (λ (n : ℕ). position c.args.offsets.now (try_handler I.items.now n) ≡ Some h.number) (sym c.from.ensures) h.at)

pub number_of_handler-requires-clause-inside : goal.number_of_handler-requires-clause-inside
number_of_handler-requires-clause-inside c =
    let I = c.args.item.now in
    let at = found_in I.items.now c.args.offsets.now c.args.offsets.now c.loop-i.i _ c.handler_of-k.result refl c.from.ensures c.handler_of-k.ensures in
    number_inside I.items.now c.args.offsets.now c.loop-i.i c.handler_of-k.result at

pub number_of_handler-requires-clause-count : goal.number_of_handler-requires-clause-count
number_of_handler-requires-clause-count c =
    let m = zeros_long c.args.known.now _ c.requires.none in
    let a = c.loop-i.auto.known in
    omega (arith, m, a)

pub number_of_handler-requires-clause-few : goal.number_of_handler-requires-clause-few
number_of_handler-requires-clause-few c =
    let x = c.requires.tries in
    let f = (c.loop-i.invariant.distinct x).few in
    let lt = c.loop-i-test.true in
    omega (arith, f, lt, length-map c.loop-i.handlers.keys (λ v. v.items))

pub number_of_handler-requires-clause-handler : goal.number_of_handler-requires-clause-handler
number_of_handler-requires-clause-handler c =
    let I = c.args.item.now in
    let x = c.requires.tries in
    let lt : c.loop-i.i < I.tries = c.loop-i-test.true in
    let at = found_in I.items.now c.args.offsets.now c.args.offsets.now c.loop-i.i _ c.handler_of-k.result refl c.from.ensures c.handler_of-k.ensures in
    carried_at c.args.numbers.now I c.args.offsets.now c.requires.some x c.loop-i.i c.handler_of-k.result lt at

pub loop-i-preserved : goal.loop-i-preserved
loop-i-preserved c =
    let I = c.args.item.now in
    let lt : c.loop-i.i < I.tries = c.loop-i-test.true in
    let at = found_in I.items.now c.args.offsets.now c.args.offsets.now c.loop-i.i _ c.handler_of-k.result refl c.from.ensures c.handler_of-k.ensures in
    let g = c.in_ok-number.ensures.ok in
    record {
      distinct = λ x.
          let s = x.all.names in
          let ss = x.all.starts in
          let ts = x.all.tries in
          let h = carried_at c.args.numbers.now I c.args.offsets.now c.requires.some x c.loop-i.i c.handler_of-k.result lt at in
          let n = x.all.read.tries.count in
          distinct-more (NameRanks s) ss ts (packs-unique s ss) (handler-once (NameRanks s) ss (ranks-injective s x.all.rise)) c.loop-i.i c.in_ok-number.number _ _ c.loop-i.all.items _ g.key (omega (arith, lt, n)) (c.loop-i.invariant.distinct x)
          (g.written.packs h) g.written.small g.numbered c.in_ok-push.ensures.items;
      known = c.in_ok-number.ensures.known;
    }

pub returns-clause-ok : goal.returns-clause-ok
returns-clause-ok c = λ x.
    let n = x.all.read.tries.count in
    let ge = c.loop-i-test.false in
    let le = c.loop-i.auto.i-end in
    let short = x.all.short in
    let some = c.requires.some in
    let e : c.loop-i.i ≡ length x.all.tries = omega (arith, n, ge, le) in
    record {
      some = omega (arith, n, some);
      few = omega (arith, n);
      short = omega (arith, n, short);
      distinct = subst (λ (m : ℕ). IsDistinct (NameRanks x.all.names) x.all.starts x.all.tries m (map (λ v. v.items) c.loop-i.handlers.keys) c.loop-i.all.items) e (c.loop-i.invariant.distinct x);
    }
