use Rattle.std.proofs.Common.{ℕ, map, take}
use Rattle.std.specs.List.{zip}
use Rattle.dex_base.specs.Grammar.{Appends, Each}
use Rattle.program_types.specs.View as view
use Rattle.program_types.specs.declared.names.Proto.{Proto}
use Rattle.file_put.specs.inner.Rows.{SpellsProtoRow}
use Rattle.file_put.proofs.proto_ids.put_protos.Given as goal

abbrev pub invariant-loop-i : goal.invariant-loop-i
invariant-loop-i l = Appends (Each (SpellsProtoRow l.ranks)) l.fn.rows.items l.rows.items (map (λ (p : ℕ × Proto). (p.0, view.proto p.1)) (take l.i (zip l.places l.proto-items)))
