use Rattle.std.proofs.Common.{ap, ◌∙◌, map, refl}
use Rattle.std.specs.Ordering.{is_eq}
use Rattle.std.specs.declared.cmp.Ordering.TheVariants.{Equal}
use Rattle.std.proofs.lemmas.List.Sorted.{All-permutation}
use Rattle.tables_names.specs.Rank.{IsAt}
use Rattle.tables_names.proofs.SortingLemmas.{names_same, numbers_stand}
use Rattle.tables_names.proofs.sorting.sorted_names.Goals as goal

pub returns-clause-same : goal.returns-clause-same
returns-clause-same g c =
    names_same g.N.Row.key g.N.Ord.cmp g.met.N.Row.cmp_by_key (λ r s. Equal) (λ x r. Unit {0}) (λ x y r s a b. refl) g.N.PartialEq.eq g.met.N.Eq.laws (λ x y. g.met.N.Ord.matches_eq x y ∙ ap is_eq (g.met.N.Row.cmp_by_key x y))
    c.args.names.now c.in_ok-rows.rows.items c.sort_unstable.new.self.items c.in_ok-rows.ensures.names c.sort_unstable.ensures.permutation c.requires (λ i d lt. tt) c.sort_unstable.ensures.sorted

pub returns-clause-numbers : goal.returns-clause-numbers
returns-clause-numbers g c =
    let new = c.sort_unstable.new.self.items in
    let at = All-permutation (λ r. IsAt (map g.N.Row.key c.args.names.now) r.2 (g.N.Row.key r.1)) c.in_ok-rows.rows.items new c.sort_unstable.ensures.permutation c.in_ok-rows.ensures.numbers in
    numbers_stand g.N.Row.key (λ k n. IsAt (map g.N.Row.key c.args.names.now) n k) new at
