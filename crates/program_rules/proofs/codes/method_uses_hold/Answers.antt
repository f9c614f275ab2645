use Rattle.program_rules.proofs.codes.method_uses_hold.Goals as goal

pub returns-in-Some : goal.returns-in-Some
returns-in-Some c = rw c.in-Some.is c.payloads_hold_in.ensures
