use Rattle.std.proofs.Common.{◌∙◌, ap}
use Rattle.tables_names.specs.Numbers.{set_of}
use Rattle.tables_names.proofs.sorting.sorted_strings.Goals as goal

pub ranks_of-requires-clause-same : goal.ranks_of-requires-clause-same
ranks_of-requires-clause-same c = rw (c.deref.ensures.value, c.in_order-2.ensures.keys) (c.in_ok-rows.ensures.same ∙ ap set_of c.in_order.ensures.keys)

pub ranks_of-requires-clause-numbers : goal.ranks_of-requires-clause-numbers
ranks_of-requires-clause-numbers c = rw (c.deref.ensures.value, c.in_order-2.ensures.keys, ← c.in_order.ensures.keys) c.in_ok-rows.ensures.numbers

pub ranked-requires : goal.ranked-requires
ranked-requires c =
    let each = rw (c.deref.ensures.value, c.in_order-2.ensures.keys) at c.in_ok-ranks.ensures in
    rw (c.deref-2.ensures.value, c.deref-3.ensures.value) (record { same = c.in_ok-rows.ensures.same ∙ ap set_of c.in_order.ensures.keys; each = each })

pub returns-clause-same : goal.returns-clause-same
returns-clause-same c = rw (c.in_ok-names.ensures, c.deref-2.ensures.value) (c.in_ok-rows.ensures.same ∙ ap set_of c.in_order.ensures.keys)

pub returns-clause-ranks : goal.returns-clause-ranks
returns-clause-ranks c =
    let each = rw (c.deref.ensures.value, c.in_order-2.ensures.keys) at c.in_ok-ranks.ensures in
    rw (c.in_ok-names.ensures, c.deref-2.ensures.value) each
