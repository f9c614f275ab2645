use Rattle.std.proofs.Common.{◌<◌, List, map, take, length, sym, subst, arith}
use Rattle.std.proofs.lemmas.List.{length-map, take_all}
use Rattle.dex_base.specs.Grammar.{Appends, Each}
use Rattle.program_types.specs.Content.{Catch, OfDesc}
use Rattle.program_types.specs.View.{catch}
use Rattle.tables_names.specs.Closure.{NameRanks}
use Rattle.code_write.specs.Fits.{HasIndexBelow}
use Rattle.code_write.specs.inner.Packs.{PacksCatch}
use Rattle.code_write.proofs.ListLaws.{all-view, take-view}
use Rattle.code_write.proofs.handlers.put_catches.Goals as goal
use Rattle.dex_base.proofs.GrammarLaws.{Each-appends_none, Each-appends_more}

pub put_catch-requires-clause-inside : goal.put_catch-requires-clause-inside
put_catch-requires-clause-inside c = all-view (λ (x : Catch). x.at < length c.args.starts.now) catch c.args.catches.now c.loop-one.one-index _ c.requires.inside c.loop-one-test.true

pub put_catch-requires-clause-ranked : goal.put_catch-requires-clause-ranked
put_catch-requires-clause-ranked c = all-view (λ (x : Catch). HasIndexBelow (NameRanks c.args.ranks.now) 4294967296 (OfDesc x.ty)) catch c.args.catches.now c.loop-one.one-index _ c.requires.ranked c.loop-one-test.true

pub loop-one-init : goal.loop-one-init
loop-one-init c = Each-appends_none (PacksCatch (NameRanks c.args.ranks.now) c.args.starts.now) c.args.out.now.items

pub loop-one-preserved : goal.loop-one-preserved
loop-one-preserved c =
    let G = PacksCatch (NameRanks c.args.ranks.now) c.args.starts.now in
    subst (λ (cs : List Catch). Appends (Each G) c.args.out.now.items c.put_catch.new.out.items cs) (sym (take-view catch c.args.catches.now c.loop-one.one-index _ c.loop-one-test.true))
    (Each-appends_more G c.args.out.now.items c.loop-one.out.items c.put_catch.new.out.items (take c.loop-one.one-index (map catch c.args.catches.now)) _ c.loop-one.invariant c.in_ok-put_catch.ensures.ok)

pub returns-clause-ok : goal.returns-clause-ok
returns-clause-ok c =
    let m = length-map c.args.catches.now catch in
    subst (λ (cs : List Catch). Appends (Each (PacksCatch (NameRanks c.args.ranks.now) c.args.starts.now)) c.args.out.now.items c.loop-one.out.items cs)
    (take_all c.loop-one.one-index (map catch c.args.catches.now) (omega arith)) c.loop-one.invariant
