-- Beside Numbers.antt: what no promise reaches.
use Rattle.std.specs.Prelude.{ℕ, List}
use Rattle.program_types.specs.Key.{Key}
use Rattle.tables_names.specs.Closure.{IsClosed}
use Rattle.tables_names.specs.declared.parts.FieldParts.{FieldParts}
use Rattle.tables_names.specs.declared.parts.MethodParts.{MethodParts}
use Rattle.tables_names.specs.Numbers.{FieldAt, FieldWithin, HaveParts, MethodAt, MethodWithin, Order, field_ranks, method_ranks, sets}

-- what holds of names in the order of first need
pub record InOrderOfNeed (o : Order) : Type 0 where
  pub closed : IsClosed (sets o.names)
  pub parts : HaveParts o

-- these numbers have ranks, and they are those of the parts of the field k
abbrev pub FieldLeads : List Key → List ℕ → List Key → List ℕ → Key → FieldParts → Type 0
FieldLeads types type_ranks strings string_ranks k p =
    FieldWithin type_ranks string_ranks p × FieldAt types strings k (field_ranks type_ranks string_ranks p)

-- these numbers have ranks, and they are those of the parts of the method k
abbrev pub MethodLeads : List Key → List ℕ → List Key → List ℕ → List Key → List ℕ → Key → MethodParts → Type 0
MethodLeads types type_ranks strings string_ranks protos proto_ranks k p =
    MethodWithin type_ranks string_ranks proto_ranks p × MethodAt types strings protos k (method_ranks type_ranks string_ranks proto_ranks p)
