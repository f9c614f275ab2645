use Rattle.std.proofs.Common.{◌≡◌, sym, true}
use Rattle.std.specs.Prelude.{is_some}
use Rattle.dexasm_world.specs.State.{place_of}
use Rattle.dexasm_world.specs.inner.FileKinds.{Gives}
use Rattle.dexasm_command.proofs.OnFile.{on_file}
use Rattle.dexasm_command.proofs.carrying.run_on_file.Goals as goal

pub returns : goal.returns
returns g c =
    let given = c.new-given.result in
    let files = g.W.World.files given.world.now in
    let opened : g.W.World.is_known ≡ true → Gives files c.args.path.now (g.W.Reader.Reading.left given.reader) × (g.W.Reader.Reading.place given.reader ≡ place_of files c.args.path.now) =
    rw (c.new-given.ensures.world, c.new-given.ensures.reader) c.in-Ok.ensures in
    rw (c.file_outcome.ensures, sym c.new-given.ensures.world) (on_file g.W.World.is_known files c.args.path.now (g.W.Reader.Reading.place given.reader) c.args.job c.args.out (g.W.Reader.Reading.left given.reader) _ (is_some c.run_on-made.new.input.refusal) _ _ _
    c.run_on-made.result c.run_on-made.new.input.refusal opened c.run_on-made.ensures.runs c.run_on-made.ensures.blames)
