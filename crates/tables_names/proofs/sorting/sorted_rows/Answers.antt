use Rattle.std.proofs.Common.{ap, ◌∙◌, map}
use Rattle.std.specs.Ordering.{is_eq}
use Rattle.std.proofs.lemmas.List.Sorted.{All-permutation}
use Rattle.tables_names.specs.Rank.{IsAt}
use Rattle.tables_names.specs.Numbers.{set_of}
use Rattle.tables_names.proofs.SortingLemmas.{names_same, rows_stand, numbers_stand}
use Rattle.tables_names.proofs.sorting.sorted_rows.Goals as goal

pub with_ranks-requires : goal.with_ranks-requires
with_ranks-requires g c = rw (c.in_order.ensures.keys, c.deref.ensures.value) c.requires.parts

pub returns-clause-same : goal.returns-clause-same
returns-clause-same g c =
    names_same g.N.Row.key g.N.Ord.cmp g.met.N.Row.cmp_by_key g.P.Ord.cmp (λ x r. g.P.PartNumbers.has c.args.sorted.now (g.N.Row.key x) r) (λ x y r s a b. c.requires.leads (g.N.Row.key x) (g.N.Row.key y) r s a b) g.N.PartialEq.eq g.met.N.Eq.laws (λ x y. g.met.N.Ord.matches_eq x y ∙ ap is_eq (g.met.N.Row.cmp_by_key x y))
    c.in_order.result.now c.in_ok-rows.rows.items c.sort_unstable.new.self.items c.in_ok-rows.ensures.names c.sort_unstable.ensures.permutation c.in_order.ensures.distinct c.in_ok-rows.ensures.ranks c.sort_unstable.ensures.sorted ∙ ap set_of c.in_order.ensures.keys

pub returns-clause-parts : goal.returns-clause-parts
returns-clause-parts g c =
    let new = c.sort_unstable.new.self.items in
    rows_stand g.N.Row.key (g.P.PartNumbers.has c.args.sorted.now) new (All-permutation (λ r. g.P.PartNumbers.has c.args.sorted.now (g.N.Row.key r.1) r.0) c.in_ok-rows.rows.items new c.sort_unstable.ensures.permutation c.in_ok-rows.ensures.ranks)

pub returns-clause-numbers : goal.returns-clause-numbers
returns-clause-numbers g c =
    let new = c.sort_unstable.new.self.items in
    let at = All-permutation (λ r. IsAt (map g.N.Row.key c.in_order.result.now) r.2 (g.N.Row.key r.1)) c.in_ok-rows.rows.items new c.sort_unstable.ensures.permutation c.in_ok-rows.ensures.numbers in
    rw (← c.in_order.ensures.keys) (numbers_stand g.N.Row.key (λ k n. IsAt (map g.N.Row.key c.in_order.result.now) n k) new at)
