use Rattle.std.proofs.Common.{refl, arith, map}
use Rattle.tables_names.specs.Rank.{IsAt}
use Rattle.std.proofs.lemmas.List.Elements.{All-nil}
use Rattle.tables_names.proofs.SortingLemmas.{names_pushed, row_pushed, beside, beside_length, name_at}
use Rattle.tables_names.proofs.sorting.with_ranks.Goals as goal

pub loop-i-init : goal.loop-i-init
loop-i-init g c = rw c.in_ok-rows.ensures.items (record { names = refl; ranks = All-nil _; numbers = All-nil _ })

pub bounds-parts-i : goal.bounds-parts-i
bounds-parts-i g c =
    beside_length g.N.Row.key (λ k p. g.P.PartNumbers.within c.args.sorted.now p × g.P.PartNumbers.has c.args.sorted.now k (g.P.PartNumbers.ranked c.args.sorted.now p)) c.args.names.now c.args.parts.now c.loop-i.i c.requires (omega arith)

pub offset_bounds-parts-i : goal.offset_bounds-parts-i
offset_bounds-parts-i g c = omega (arith, bounds-parts-i g c)

pub ranks-requires : goal.ranks-requires
ranks-requires g c =
    (beside g.N.Row.key (λ k p. g.P.PartNumbers.within c.args.sorted.now p × g.P.PartNumbers.has c.args.sorted.now k (g.P.PartNumbers.ranked c.args.sorted.now p)) c.args.names.now c.args.parts.now c.loop-i.i c.index-names-i.result c.index-parts-i.result c.requires (omega arith) c.index-names-i.is c.index-parts-i.is).0

pub loop-i-preserved : goal.loop-i-preserved
loop-i-preserved g c =
    let at = c.loop-i in
    let pushed = c.in_ok-push.ensures.items in
    let here = beside g.N.Row.key (λ k p. g.P.PartNumbers.within c.args.sorted.now p × g.P.PartNumbers.has c.args.sorted.now k (g.P.PartNumbers.ranked c.args.sorted.now p)) c.args.names.now c.args.parts.now at.i c.index-names-i.result c.index-parts-i.result c.requires (omega arith) c.index-names-i.is c.index-parts-i.is in
    record {
      names = names_pushed c.args.names.now at.rows.items c.push.new.self.items at.i c.index-names-i.result c.ranks.result at.i (omega arith) c.index-names-i.is pushed at.invariant.names;
      ranks = row_pushed (λ r. g.P.PartNumbers.has c.args.sorted.now (g.N.Row.key r.1) r.0) at.rows.items c.push.new.self.items (c.ranks.result, c.index-names-i.result, at.i) pushed at.invariant.ranks (rw c.ranks.ensures here.1);
      numbers = row_pushed (λ r. IsAt (map g.N.Row.key c.args.names.now) r.2 (g.N.Row.key r.1)) at.rows.items c.push.new.self.items (c.ranks.result, c.index-names-i.result, at.i) pushed at.invariant.numbers (name_at g.N.Row.key c.args.names.now at.i c.index-names-i.result (omega arith) c.index-names-i.is);
    }
