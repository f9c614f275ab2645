use Rattle.program_rules.proofs.nested.names_are_valid_in.Goals as goal

pub loop-levels-preserved : goal.loop-levels-preserved
loop-levels-preserved c = c.again-known.ensures _ c.loop-levels.invariant
