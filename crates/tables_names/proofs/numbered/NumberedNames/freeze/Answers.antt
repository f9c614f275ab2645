use Rattle.std.proofs.Common.{ap, ◌∙◌}
use Rattle.tables_names.specs.Numbers.{Order, sets, FieldAt, MethodAt}
use Rattle.tables_names.proofs.NumberLemmas.{field_leads, method_leads}
use Rattle.tables_names.proofs.NumberedNamesLemmas.{order_of}
use Rattle.tables_names.proofs.numbered.NumberedNames.freeze.Goals as goal
use Rattle.dex_base.proofs.ListFacts.{zip_weaker}

pub ranked_parts-requires : goal.ranked_parts-requires
ranked_parts-requires c = record { types = c.self.invariant.parts.types; protos = c.self.invariant.parts.protos }

pub ranked_members-requires : goal.ranked_members-requires
ranked_members-requires c =
    let o = order_of c.self.inside in
    let p = c.in_ok-parts.parts in
    let ranks = c.in_ok-parts.ensures.ranks in
    record {
      fields = zip_weaker (FieldAt o.names.types o.names.strings) _ (field_leads o.names.types p.types.table.names p.types.ranks.items ranks.1 o.names.strings p.strings.names p.strings.ranks.items ranks.0) o.names.fields o.fields c.self.invariant.parts.fields;
      methods = zip_weaker (MethodAt o.names.types o.names.strings o.names.protos) _ (method_leads o.names.types p.types.table.names p.types.ranks.items ranks.1 o.names.strings p.strings.names p.strings.ranks.items ranks.0 o.names.protos p.protos.table.names p.protos.ranks.items ranks.2) o.names.methods o.methods c.self.invariant.parts.methods;
    }

pub from_sorted-requires : goal.from_sorted-requires
from_sorted-requires c =
    let names = c.in_ok-parts.ensures.names in
    let members = c.in_ok-members.ensures.names in
    let rows = c.in_ok-parts.ensures.rows in
    let others = c.in_ok-members.ensures.rows in
    record {
      closed = rw (names.0, names.1, names.2, members.0, members.1) c.self.invariant.closed;
      parts = record { types = rows.0; protos = rows.1; fields = others.0; methods = others.1 };
    }

pub returns-clause-same : goal.returns-clause-same
returns-clause-same c =
    let names = c.in_ok-parts.ensures.names in
    let members = c.in_ok-members.ensures.names in
    c.from_sorted.ensures.names ∙ (λ i. record { strings = names.0 i; types = names.1 i; protos = names.2 i; fields = members.0 i; methods = members.1 i }) ∙ ap (λ (o : Order). sets o.names) c.self.view_is

pub returns-clause-ranks : goal.returns-clause-ranks
returns-clause-ranks c =
    let parts = c.in_ok-parts.ensures.ranks in
    let members = c.in_ok-members.ensures.ranks in
    rw (c.from_sorted.ensures.names, c.from_sorted.ensures.ranks, ← c.self.view_is) (record { strings = parts.0; types = parts.1; fields = members.0; methods = members.1 })
