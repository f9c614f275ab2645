-- A refusal that is reported to C is a check's result.
use Rattle.std.proofs.Common.{◌≢◌, ℕ, List, ap, sym, subst}
use Rattle.dex_base.specs.Fault.{memory}
use Rattle.dex_base.specs.declared.fault.Fault.{Fault}
use Rattle.dexasm_world.specs.declared.job.Job.TheVariants.{Check}
use Rattle.dexasm_run.specs.Answers.{Refusal}
use Rattle.dexasm_c.specs.declared.ending.CFault.{CFault}
use Rattle.dexasm_c.specs.declared.ending.Ending.{Ending}
use Rattle.dexasm_c.specs.declared.ending.Ending.TheVariants.{Answered, Refused, Memory, TooSmall}
use Rattle.dexasm_c.specs.Calls.{Checks}
use Rattle.dexasm_c.specs.inner.Calls.{Reports}

pub checks_reported : (ending : Ending) (given : List ℕ) (fault : Fault) (reported : CFault) → Reports ending fault reported → (fault ≢ memory → Refusal Check given fault) → Checks ending given reported
checks_reported Refused given fault reported x refused = subst (λ f. Refusal Check given f) (sym x.1) (refused (λ e. x.0 (ap (λ f. f.code) e)))
checks_reported Memory given fault reported x refused = x.1
checks_reported Answered given fault reported x refused = absurd x
checks_reported TooSmall given fault reported x refused = absurd x
