use Rattle.std.proofs.Common.{◌≡◌, ◌∙◌, ℕ, List, ap, length, replicate, subst, sym, arith}
use Rattle.std.proofs.lemmas.Result.{IfOk-weaker}
use Rattle.tables_rows.specs.Stands.{NameStands}
use Rattle.code_read.specs.Places.{Rises}
use Rattle.file_renumber.specs.inner.Fronts.{AreListed}
use Rattle.file_renumber.proofs.ListLemmas.{list_of_tries}
use Rattle.file_renumber.specs.inner.CarriedCodes.{CarriedTries}
use Rattle.file_renumber.specs.inner.TryWalks.{CarriedList}
use Rattle.file_renumber.proofs.tries.distinct_of.Goals as goal
use Rattle.file_renumber.proofs.tries.distinct_of.Goals.{In_ok-list}

pub list_at-requires-clause-list : goal.list_at-requires-clause-list
list_at-requires-clause-list c =
    let I = c.args.item.now in
    let x = c.requires.tries in
    (x.file, x.starts, _, _, list_of_tries (NameStands x.file) x.starts I.size I.tries I.items.now I.list.now x.tries c.requires.some x.read)

pub number_each-requires-clause-rises : goal.number_each-requires-clause-rises
number_each-requires-clause-rises c = subst Rises (sym c.deref.ensures.value) c.in_ok-list.list.rise

pub number_each-requires-clause-none : goal.number_each-requires-clause-none
number_each-requires-clause-none c =
    let v = ap length c.deref.ensures.value in
    let n : c.len.result ≡ length c.deref.result.now = omega (arith, v) in
    c.deref_mut.ensures.value ∙ c.in_ok-known.ensures.ok ∙ ap (λ (m : ℕ). replicate {A = ℕ} m 0) n

-- the offsets of the list are those of the handlers
carried_list : (c : In_ok-list) (offsets : List ℕ) → offsets ≡ c.in_ok-list.list.offsets.items → CarriedTries c.args.numbers.now c.args.item.now → CarriedList c.args.numbers.now c.args.item.now offsets
carried_list c offsets is x =
    let I = c.args.item.now in
    let l = c.in_ok-list.ensures.ok x.file x.starts _ _ (list_of_tries (NameStands x.file) x.starts I.size I.tries I.items.now I.list.now x.tries c.requires.some x.read) in
    record { all = x; catches = c.in_ok-list.list.catches.items; listed = subst (λ (os : List ℕ). AreListed x.read.tries.handlers os c.in_ok-list.list.catches.items) (sym is) l }

pub number_each-requires-clause-tries : goal.number_each-requires-clause-tries
number_each-requires-clause-tries c = carried_list (goal.at.number_each-requires-clause-tries c).In_ok-list _ c.deref.ensures.value c.requires.tries

pub returns-clause-ok : goal.returns-clause-ok
unfolding carried_list
returns-clause-ok c = IfOk-weaker c.number_each.result _ _ (λ d f x. f (carried_list (goal.at.returns-clause-ok c).In_ok-list _ c.deref.ensures.value x)) c.number_each.ensures.ok
