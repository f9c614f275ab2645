use Rattle.std.proofs.Common.{◌≡◌, ap, ◌∙◌, arith, get_or, map, subst, sym, ℕ}
use Rattle.std.specs.Ordering.{is_eq}
use Rattle.std.proofs.lemmas.Option.{get_or_from_slice_get, slice_get-get_or}
use Rattle.tables_names.specs.Rank.{IsAt, is_member}
use Rattle.tables_names.proofs.NameSetLemmas.{found_at, none_there}
use Rattle.tables_names.proofs.NumberLemmas.{member_of_set, rank_there}
use Rattle.tables_names.proofs.name_set.Ranked.rank_of.Goals as goal

pub index-requires : goal.index-requires
index-requires g c =
    let here = rw c.in-Some.is at (found_at g.N.Row.key g.N.PartialEq.eq (λ x y. g.met.N.Ord.matches_eq x y ∙ ap is_eq (g.met.N.Row.cmp_by_key x y)) c.self.inside.items.keys c.args.name.now c.get_index_of.result c.get_index_of.ensures.index) in
    let there = rank_there (map g.N.Row.key c.self.inside.items.keys) (map g.N.Row.key c.self.inside.names.items) c.self.inside.ranks.items c.in-Some.number (g.N.Row.key c.args.name.now) c.self.invariant.each here in
    omega (arith, there.0, c.self.inside.ranks.ok.0)

pub returns-in-Some-clause-some : goal.returns-in-Some-clause-some
returns-in-Some-clause-some g c =
    let ranks = c.self.inside.ranks.items in
    let n = c.in-Some.number in
    let k = g.N.Row.key c.args.name.now in
    let table = map g.N.Row.key c.self.inside.names.items in
    let here = rw c.in-Some.is at (found_at g.N.Row.key g.N.PartialEq.eq (λ x y. g.met.N.Ord.matches_eq x y ∙ ap is_eq (g.met.N.Row.cmp_by_key x y)) c.self.inside.items.keys c.args.name.now c.get_index_of.result c.get_index_of.ensures.index) in
    let there = rank_there (map g.N.Row.key c.self.inside.items.keys) table ranks n k c.self.invariant.each here in
    let value : c.index.result.now ≡ get_or ranks n 0 = c.index.ensures ∙ get_or_from_slice_get ranks n (get_or ranks n 0) c.index.result.now (slice_get-get_or ranks n 0 there.0) in
    rw (← c.self.view_is) (subst (λ (i : ℕ). IsAt table i k) (sym value) there.1)

pub returns-in-None-clause-none : goal.returns-in-None-clause-none
returns-in-None-clause-none g c =
    let none = rw c.in-None.is at (none_there g.N.Row.key g.N.PartialEq.eq (λ x y. g.met.N.Ord.matches_eq x y ∙ ap is_eq (g.met.N.Row.cmp_by_key x y)) c.self.inside.items.keys c.args.name.now c.get_index_of.result c.get_index_of.ensures.found) in
    rw (← c.self.view_is) (ap (λ l. is_member l (g.N.Row.key c.args.name.now)) c.self.invariant.same ∙ member_of_set (map g.N.Row.key c.self.inside.items.keys) (g.N.Row.key c.args.name.now) ∙ none)
