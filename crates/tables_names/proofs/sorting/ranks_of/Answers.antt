use Rattle.std.proofs.Common.{◌≡◌, ◌<◌, ◌∙◌, ap, arith, get_or, length, length-set, map, set, sym}
use Rattle.std.specs.Ordering.{is_eq}
use Rattle.std.proofs.lemmas.List.{get_or-map, length-map}
use Rattle.tables_names.proofs.NameSetLemmas.{one_number}
use Rattle.tables_names.proofs.SortingLemmas.{none_placed, number_within, next_placed, all_placed}
use Rattle.tables_names.proofs.sorting.ranks_of.Goals as goal

pub loop-rank-init : goal.loop-rank-init
loop-rank-init g c = record { long = sym c.resize.new.self.ok.0 ∙ c.in_ok-resize.ensures.len; placed = none_placed _ _ _ }

pub index_mut-requires : goal.index_mut-requires
index_mut-requires g c =
    let rows = c.args.rows.now in
    let numbers = map (λ r. r.2) rows in
    let i = c.loop-rank.rank in
    let few : i < length numbers = omega (arith, length-map rows (λ r. r.2)) in
    let number : get_or numbers i 0 ≡ c.index-rows-rank.result.2 = get_or-map (λ r. r.2) rows i c.index-rows-rank.result 0 (omega arith) ∙ ap (λ r. r.2) (sym c.index-rows-rank.is) in
    omega (arith, number_within (map g.N.Row.key c.args.names.now) (map g.N.Row.key (map (λ r. r.1) rows)) numbers c.requires.numbers i few, number, length-map c.args.names.now g.N.Row.key)

pub loop-rank-preserved : goal.loop-rank-preserved
loop-rank-preserved g c =
    let rows = c.args.rows.now in
    let numbers = map (λ r. r.2) rows in
    let i = c.loop-rank.rank in
    let old = c.loop-rank.ranks.items in
    let number : get_or numbers i 0 ≡ c.index-rows-rank.result.2 = get_or-map (λ r. r.2) rows i c.index-rows-rank.result 0 (omega arith) ∙ ap (λ r. r.2) (sym c.index-rows-rank.is) in
    record {
      long = length-set old c.index-rows-rank.result.2 i ∙ c.loop-rank.invariant.long;
      placed = next_placed (map g.N.Row.key c.args.names.now) (map g.N.Row.key (map (λ r. r.1) rows)) numbers c.requires.numbers i old (set old c.index-rows-rank.result.2 i) (omega (arith, length-map rows (λ r. r.2))) (c.loop-rank.invariant.long ∙ sym (length-map c.args.names.now g.N.Row.key)) (ap (λ m. set old m i) (sym number)) c.loop-rank.invariant.placed;
    }

pub returns : goal.returns
returns g c =
    let rows = c.args.rows.now in
    let numbers = map (λ r. r.2) rows in
    all_placed (map g.N.Row.key c.args.names.now) (map g.N.Row.key (map (λ r. r.1) rows)) numbers c.requires.numbers
    (one_number g.N.Row.key g.N.PartialEq.eq (λ x y. g.met.N.Ord.matches_eq x y ∙ ap is_eq (g.met.N.Row.cmp_by_key x y)) c.args.names.now c.requires.distinct)
    c.requires.same c.loop-rank.rank c.loop-rank.ranks.items (omega (arith, length-map rows (λ r. r.2))) (c.loop-rank.invariant.long ∙ sym (length-map c.args.names.now g.N.Row.key)) c.loop-rank.invariant.placed
