-- An answer goes where it is to go.
use Rattle.std.specs.Prelude.{Result}
use Rattle.std.proofs.Common.{inr, ℕ, Bool, List, [], append-nil, Option, Some, Ok, Err, refl, sym}
use Rattle.dexasm_world.specs.declared.job.Job.{Job}
use Rattle.dexasm_run.specs.Answers.{Answer}
use Rattle.dexasm_run.specs.Runs.{IsAllGiven}
use Rattle.dexasm_run.specs.declared.error.RunFault.{RunFault}
use Rattle.dexasm_run.specs.declared.error.RunFault.TheVariants.{Refused, Input, Output, Memory}
use Rattle.dexasm_world.specs.State.{Path, Files}
use Rattle.dexasm_command.specs.Carried.{GoesTo}
use Rattle.dexasm_command.specs.inner.Carried.{HandsOver}

-- known bytes are all that they give
pub all_known : (given : List ℕ) → IsAllGiven (Some given) (Some []) given
all_known given = record { gave = sym (append-nil given); end = refl }

-- an answer that was made and handed over has gone to OUT
pub goes_to : (job : Job) (had left : Option (List ℕ)) (failed : Bool) (known : Type 0) (f g : Files) (out : Path) (given answer : List ℕ) (r : Result (Unit {0}) RunFault)
    → IsAllGiven had left given → Answer job given answer → HandsOver known f g out answer r → GoesTo job had left failed known f g out r
goes_to job had left failed known f g out given answer (Ok x) all answered h =
    (answer, record { given = given; whole = all; answered = answered; moments = λ k. (h k).0 }, λ k. ((h k).1, (h k).2))
goes_to job had left failed known f g out given answer (Err (Refused fault)) all answered h = absurd h
goes_to job had left failed known f g out given answer (Err Input) all answered h = absurd h
goes_to job had left failed known f g out given answer (Err Output) all answered h =
    (answer, record { given = given; whole = all; answered = answered; moments = λ k. (h k).0 }, λ k. ((h k).1, (h k).2))
goes_to job had left failed known f g out given answer (Err Memory) all answered h =
    inr (answer, record { given = given; whole = all; answered = answered; moments = λ k. (h k).0 }, λ k. (h k).1)
