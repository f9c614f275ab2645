use Rattle.std.proofs.Common.{◌≡◌, ℕ, map, length, arith, subst}
use Rattle.std.proofs.lemmas.List.{length-map}
use Rattle.program_types.specs.View.{try}
use Rattle.program_types.specs.Content.{Try}
use Rattle.tables_names.specs.Closure.{NameRanks}
use Rattle.code_read.specs.Tries.{handler_of}
use Rattle.code_write.specs.Fits.{HasIndexBelow}
use Rattle.code_write.specs.inner.Packs.{PacksHandler}
use Rattle.code_write.specs.inner.Writing.{IsDistinct}
use Rattle.code_write.proofs.ItemPieces.{seen-at}
use Rattle.code_write.proofs.TryParts.{few-catches, places-inside, types-named, last-inside, some-handled}
use Rattle.dex_base.proofs.ShortestLaws.{AllBytes}
use Rattle.code_write.proofs.HandlerPacks.{alone}
use Rattle.code_write.proofs.NumberLaws.{none-held}
use Rattle.code_write.proofs.HandlerOnce.{handler-once, ranks-injective, packs-unique}
use Rattle.code_write.proofs.DistinctLaws.{distinct-none, distinct-more}
use Rattle.code_write.proofs.handlers.distinct_of.Goals as goal

pub put_handler-requires-clause-few : goal.put_handler-requires-clause-few
put_handler-requires-clause-few c = few-catches c.args.tries.now c.loop-i.i _ c.loop-i-test.true c.requires.short

pub put_handler-requires-clause-inside : goal.put_handler-requires-clause-inside
put_handler-requires-clause-inside c = places-inside c.args.tries.now c.loop-i.i _ c.loop-i-test.true (length c.args.starts.now) (c.requires.formed c.loop-i.i c.loop-i-test.true)

pub put_handler-requires-clause-ranked : goal.put_handler-requires-clause-ranked
put_handler-requires-clause-ranked c = types-named c.args.tries.now c.loop-i.i _ c.loop-i-test.true (HasIndexBelow (NameRanks c.args.ranks.now) 4294967296) c.requires.ranked

pub put_handler-requires-clause-last : goal.put_handler-requires-clause-last
put_handler-requires-clause-last c = last-inside c.args.tries.now c.loop-i.i _ c.loop-i-test.true (length c.args.starts.now) (c.requires.formed c.loop-i.i c.loop-i-test.true)

pub put_handler-requires-clause-handled : goal.put_handler-requires-clause-handled
put_handler-requires-clause-handled c = some-handled c.args.tries.now c.loop-i.i _ c.loop-i-test.true (length c.args.starts.now) (c.requires.formed c.loop-i.i c.loop-i-test.true)

pub number_of-requires : goal.number_of-requires
number_of-requires c = let f = c.loop-i.invariant.few in let n = c.requires.few in record { few = omega (arith, length-map c.loop-i.handlers.keys (λ v. v.items)) }

pub loop-i-init : goal.loop-i-init
loop-i-init c =
    distinct-none (NameRanks c.args.ranks.now) c.args.starts.now (map try c.args.tries.now) (packs-unique c.args.ranks.now c.args.starts.now) (handler-once (NameRanks c.args.ranks.now) c.args.starts.now (ranks-injective c.args.ranks.now c.rise.ensures)) _ _ (none-held _ c.with_hasher-handlers.ensures.len) c.in_ok-numbers.ensures.items

pub loop-i-preserved : goal.loop-i-preserved
loop-i-preserved c =
    distinct-more (NameRanks c.args.ranks.now) c.args.starts.now (map try c.args.tries.now) (packs-unique c.args.ranks.now c.args.starts.now) (handler-once (NameRanks c.args.ranks.now) c.args.starts.now (ranks-injective c.args.ranks.now c.rise.ensures))
    c.loop-i.i _ _ _ c.loop-i.numbers.items _ c.put_handler.new.out.items (let n = length-map c.args.tries.now try in let l = c.loop-i-test.true in omega (arith, n, l)) c.loop-i.invariant
    (subst (λ (t : Try). PacksHandler (NameRanks c.args.ranks.now) c.args.starts.now c.put_handler.new.out.items (handler_of t)) (seen-at c.args.tries.now c.loop-i.i _ c.loop-i-test.true)
    (alone (PacksHandler (NameRanks c.args.ranks.now) c.args.starts.now) _ _ _ c.new-bytes.ensures.items c.in_ok-put_handler.ensures.ok))
    (subst AllBytes c.deref.ensures.value c.are_bytes.ensures.all) c.in_ok-number_of.ensures.ok c.in_ok-push.ensures.items

pub returns-clause-ok : goal.returns-clause-ok
returns-clause-ok c =
    let e : c.loop-i.i ≡ length c.args.tries.now = omega arith in
    subst (λ (n : ℕ). IsDistinct (NameRanks c.args.ranks.now) c.args.starts.now (map try c.args.tries.now) n (map (λ v. v.items) c.loop-i.handlers.keys) c.loop-i.numbers.items) e c.loop-i.invariant
