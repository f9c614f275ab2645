use Rattle.tables_names.proofs.SortingLemmas.{field_ranks_lead, method_ranks_lead}
use Rattle.tables_names.proofs.numbered.ranked_members.Goals as goal

pub sorted_by-requires-clause-leads : goal.sorted_by-requires-clause-leads
sorted_by-requires-clause-leads c =
    let parts = c.args.parts.now in λ j k p q a b. field_ranks_lead parts.strings.names parts.types.table.names c.rises.ensures c.rises-2.ensures j k p q a b

pub sorted_by-requires-2-clause-leads : goal.sorted_by-requires-2-clause-leads
sorted_by-requires-2-clause-leads c =
    let parts = c.args.parts.now in λ j k p q a b. method_ranks_lead parts.strings.names parts.types.table.names c.rises.ensures c.rises-2.ensures parts.protos.table.names c.rises-3.ensures j k p q a b
