use Rattle.std.proofs.Common.{refl}
use Rattle.tables_names.specs.Keys.{key_of_str}
use Rattle.tables_names.specs.Closure.{with_name}
use Rattle.tables_names.proofs.NumberLemmas.{set-with_last, numbered-strings, Grows-with_last, Grows-refl}
use Rattle.tables_names.proofs.NumberedNamesLemmas.{order_of}
use Rattle.tables_names.proofs.numbered.NumberedNames.add_string.Goals as goal

pub returns-clause-added : goal.returns-clause-added
unfolding with_name
returns-clause-added c =
    rw (c.in_ok-number.ensures.added, set-with_last, ← c.self.view_is) refl

pub returns-clause-grows : goal.returns-clause-grows
returns-clause-grows c =
    let o = order_of c.self.inside in
    rw (c.in_ok-number.ensures.added, ← c.self.view_is)
    (record { strings = Grows-with_last o.names.strings (key_of_str c.args.name); types = Grows-refl o.names.types; protos = Grows-refl o.names.protos; fields = Grows-refl o.names.fields; methods = Grows-refl o.names.methods })

pub invariant_of-self-2 : goal.invariant_of-self-2
invariant_of-self-2 c = rw c.in_ok-number.ensures.added (numbered-strings (order_of c.self.inside) c.self.invariant (key_of_str c.args.name))
