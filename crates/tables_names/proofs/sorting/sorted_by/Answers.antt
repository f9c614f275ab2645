use Rattle.tables_names.proofs.sorting.sorted_by.Goals as goal

pub ranks_of-requires-clause-same : goal.ranks_of-requires-clause-same
ranks_of-requires-clause-same g c = rw (c.deref-2.ensures.value, c.in_order.ensures.keys) c.in_ok-rows.ensures.same

pub ranks_of-requires-clause-numbers : goal.ranks_of-requires-clause-numbers
ranks_of-requires-clause-numbers g c = rw (c.deref-2.ensures.value, c.in_order.ensures.keys) c.in_ok-rows.ensures.numbers

pub ranked-requires : goal.ranked-requires
ranked-requires g c =
    let each = rw (c.deref-2.ensures.value, c.in_order.ensures.keys) at c.in_ok-ranks.ensures in
    rw (c.deref-3.ensures.value, c.deref-4.ensures.value) (record { same = c.in_ok-rows.ensures.same; each = each })

pub returns-clause-same : goal.returns-clause-same
returns-clause-same g c = rw (c.in_ok-names.ensures, c.deref-3.ensures.value) c.in_ok-rows.ensures.same

pub returns-clause-ranks : goal.returns-clause-ranks
returns-clause-ranks g c =
    let each = rw (c.deref-2.ensures.value, c.in_order.ensures.keys) at c.in_ok-ranks.ensures in
    rw (c.in_ok-names.ensures, c.deref-3.ensures.value) each

pub returns-clause-rows : goal.returns-clause-rows
returns-clause-rows g c = rw (c.in_ok-names.ensures, c.deref-3.ensures.value, c.in_ok-parts.ensures, c.deref.ensures.value) c.in_ok-rows.ensures.parts
