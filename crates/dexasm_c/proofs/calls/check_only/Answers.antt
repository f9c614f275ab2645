use Rattle.std.proofs.Common.{rules}
use Rattle.dexasm_c.specs.declared.ending.Ending.TheVariants.{Answered}
use Rattle.dexasm_c.specs.Calls.{Checks}
use Rattle.dexasm_c.proofs.CallLaws.{checks_reported}
use Rattle.dexasm_c.proofs.calls.check_only.Goals.{in-Ok, in-Err}
use Rattle.dexasm_c.proofs.calls.check_only.Goals as goal

pub returns : goal.returns
returns c = elim c.match-answer.branch [
  | in-Ok w ↦ (
      let answered : Checks Answered c.args.given.now c.match-answer.fault = search rules in
      rw w.result-is answered)
  | in-Err w ↦ rw (w.result-is, w.fault-is) (checks_reported _ _ _ _ w.report.ensures (λ ne. (rw w.in-Err.is at c.answer.ensures.refused) ne))
]
