use Rattle.std.proofs.Common.{inr, refl}
use Rattle.dexasm_command.specs.Carried.{around}
use Rattle.dexasm_command.proofs.Brought.{brought, failed_by, file_brought, file_unmade}
use Rattle.dexasm_command.proofs.carrying.carry_out.Goals as goal

pub returns-in_err-made-in-Some : goal.returns-in_err-made-in-Some
returns-in_err-made-in-Some g c =
    let a = around g.W.World.is_known (g.W.World.files c.args.world.now) (g.I.Source.remaining c.args.input.now) (g.I.Source.failed c.args.input.now) (g.O.Sink.contents c.args.output.now) (g.O.Sink.failed c.args.output.now) in
    let b = around g.W.World.is_known (g.W.World.files c.args.world.now) (g.I.Source.remaining c.args.input.now) (g.I.Source.failed c.args.input.now) (g.O.Sink.contents c.run_on_file.new.output) (g.O.Sink.failed c.run_on_file.new.output) in
    rw (c.in-Some.is, failed_by _ _ c.from_residual-in_err-made-in-Some.ensures.1) (file_unmade c.args.job c.in-Some.path.now c.args.out a b _ c.in_err-made-in-Some.ensures refl refl)

pub returns-in_ok-made-in-None : goal.returns-in_ok-made-in-None
returns-in_ok-made-in-None g c =
    let a = around g.W.World.is_known (g.W.World.files c.args.world.now) (g.I.Source.remaining c.args.input.now) (g.I.Source.failed c.args.input.now) (g.O.Sink.contents c.args.output.now) (g.O.Sink.failed c.args.output.now) in
    let b = around g.W.World.is_known (g.W.World.files c.bring.new.world) (g.I.Source.remaining c.run_on.new.input) (g.I.Source.failed c.run_on.new.input) (g.O.Sink.contents c.run_on.new.output) (g.O.Sink.failed c.run_on.new.output) in
    rw c.in-None.is (brought c.args.job c.args.out _ _ _ a b c.in_ok-made-in-None.made c.as_slice.result.now c.bring.result c.in_ok-made-in-None.ensures.runs c.as_slice.ensures.value c.bring.ensures)

pub returns-in_ok-made-in-Some : goal.returns-in_ok-made-in-Some
returns-in_ok-made-in-Some g c =
    let a = around g.W.World.is_known (g.W.World.files c.args.world.now) (g.I.Source.remaining c.args.input.now) (g.I.Source.failed c.args.input.now) (g.O.Sink.contents c.args.output.now) (g.O.Sink.failed c.args.output.now) in
    let b = around g.W.World.is_known (g.W.World.files c.bring-in-Some.new.world) (g.I.Source.remaining c.args.input.now) (g.I.Source.failed c.args.input.now) (g.O.Sink.contents c.run_on_file.new.output) (g.O.Sink.failed c.run_on_file.new.output) in
    rw c.in-Some.is (inr (file_brought c.args.job c.in-Some.path.now c.args.out a b c.in_ok-made-in-Some.made c.as_slice-in-Some.result.now c.bring-in-Some.result c.in_ok-made-in-Some.ensures c.as_slice-in-Some.ensures.value c.bring-in-Some.ensures refl))
