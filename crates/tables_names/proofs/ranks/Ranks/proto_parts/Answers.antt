use Rattle.tables_names.proofs.ranks.Ranks.proto_parts.Goals as goal

pub returns : goal.returns
returns c = rw (c.deref.ensures.value, ← c.self.view_is) c.self.invariant.parts.protos
