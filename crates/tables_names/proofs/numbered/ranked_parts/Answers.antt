use Rattle.tables_names.proofs.SortingLemmas.{text_ranks, ret_ranks}
use Rattle.tables_names.specs.Numbers.{TypeAt, ProtoAt}
use Rattle.tables_names.proofs.NumberLemmas.{text_leads, ret_leads}
use Rattle.tables_names.proofs.numbered.ranked_parts.Goals as goal
use Rattle.dex_base.proofs.ListFacts.{zip_weaker}

pub sorted_by-requires-clause-leads : goal.sorted_by-requires-clause-leads
sorted_by-requires-clause-leads c = λ j k p q a b. text_ranks c.in_ok-strings.strings.names c.rises.ensures j k p q a b

pub sorted_by-requires-clause-parts : goal.sorted_by-requires-clause-parts
sorted_by-requires-clause-parts c =
    zip_weaker (TypeAt c.args.strings) _ (text_leads c.args.strings c.in_ok-strings.strings.names c.in_ok-strings.strings.ranks.items c.in_ok-strings.ensures.ranks) c.args.types.names c.args.types.parts.items c.requires.types

pub sorted_by-requires-2-clause-parts : goal.sorted_by-requires-2-clause-parts
sorted_by-requires-2-clause-parts c =
    zip_weaker (ProtoAt c.args.types.names) _ (ret_leads c.args.types.names c.in_ok-types.types.table.names c.in_ok-types.types.ranks.items c.in_ok-types.ensures.ranks) c.args.protos.names c.args.protos.parts.items c.requires.protos

pub sorted_by-requires-2-clause-leads : goal.sorted_by-requires-2-clause-leads
sorted_by-requires-2-clause-leads c = λ j k p q a b. ret_ranks c.in_ok-types.types.table.names c.rises-2.ensures j k p q a b
