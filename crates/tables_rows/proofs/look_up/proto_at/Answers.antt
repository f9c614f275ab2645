use Rattle.std.proofs.lemmas.Option.{slice_get-get_or}
use Rattle.program_types.specs.View.{proto}
use Rattle.tables_rows.specs.Stands.{ProtoStands}
use Rattle.tables_rows.proofs.RowReading.{row_some}
use Rattle.tables_rows.proofs.look_up.proto_at.Goals as goal

pub returns-then-place-protos-clause-some : goal.returns-then-place-protos-clause-some
returns-then-place-protos-clause-some c = row_some ProtoStands c.args.sections.now 2 proto c.args.protos.now c.args.index _ c.requires (slice_get-get_or _ _ _ c.if-place-protos.true)
