use Rattle.std.proofs.Common.{◌≡◌, ◌∙◌, ℕ, length, ap, arith, replicate}
use Rattle.std.proofs.lemmas.Result.{on_ok_weaker, IfOk-weaker}
use Rattle.tables_rows.specs.Stands.{NameStands}
use Rattle.file_renumber.proofs.ListLemmas.{list_of_tries}
use Rattle.file_renumber.specs.inner.TryWalks.{HasTries, ListedTries}
use Rattle.file_renumber.proofs.tries.mark_tries.Goals as goal
use Rattle.file_renumber.proofs.tries.mark_tries.Goals.{In_ok-list}

pub list_at-requires-clause-list : goal.list_at-requires-clause-list
list_at-requires-clause-list c =
    let I = c.args.item.now in
    let x = c.requires.tries in
    (c.args.sections.now, x.starts, _, _, list_of_tries (NameStands c.args.sections.now) x.starts I.size I.tries I.items.now I.list.now x.tries c.requires.some x.read)

pub mark_each-requires-clause-none : goal.mark_each-requires-clause-none
mark_each-requires-clause-none c =
    let n : c.len.result ≡ length c.in_ok-list.list.offsets.items = omega arith in
    c.deref_mut.ensures.value ∙ c.in_ok-seen.ensures.ok ∙ ap (λ (m : ℕ). replicate {A = ℕ} m 0) n

-- the handlers of the list are those of the tries
listed : (c : In_ok-list) (x : HasTries c.args.sections.now c.args.item.now) → ListedTries c.args.sections.now c.args.item.now c.in_ok-list.list
listed c x =
    let I = c.args.item.now in
    record { all = x; listed = c.in_ok-list.ensures.ok c.args.sections.now x.starts _ _ (list_of_tries (NameStands c.args.sections.now) x.starts I.size I.tries I.items.now I.list.now x.tries c.requires.some x.read) }

pub mark_each-requires-clause-tries : goal.mark_each-requires-clause-tries
mark_each-requires-clause-tries c = listed (goal.at.mark_each-requires-clause-tries c).In_ok-list c.requires.tries

pub returns-clause-marked : goal.returns-clause-marked
unfolding listed
returns-clause-marked c = on_ok_weaker c.mark_each.result (λ f x. f (listed (goal.at.returns-clause-marked c).In_ok-list x)) c.mark_each.ensures.marked

pub returns-clause-catches : goal.returns-clause-catches
unfolding listed
returns-clause-catches c = IfOk-weaker c.mark_each.result _ _ (λ n f x. f (listed (goal.at.returns-clause-catches c).In_ok-list x)) c.mark_each.ensures.catches
