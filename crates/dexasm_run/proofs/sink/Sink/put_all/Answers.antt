use Rattle.std.proofs.Common.{rules}
use Rattle.std.proofs.lemmas.List.{take_rest}
use Rattle.dexasm_run.proofs.Moves.{Appends-more}
use Rattle.dexasm_run.proofs.sink.Sink.put_all.Goals as goal

pub loop-done-preserved : goal.loop-done-preserved
loop-done-preserved g c = (search rules, Appends-more _ _ _ _ _ _ c.loop-done.invariant.1 (rw take_rest at c.in-Ok.ensures.bytes))
