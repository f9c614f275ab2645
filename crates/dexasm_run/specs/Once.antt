-- A job's output is determined by its input bytes.
-- Page: docs/PROVED.md.
use Rattle.std.specs.Prelude.{◌≡◌, ℕ, List, Result}
use Rattle.dex_base.specs.declared.fault.Fault.{Fault}
use Rattle.dexasm_world.specs.declared.job.Job.{Job}
use Rattle.dexasm_run.specs.Answers.{Answer, Outcome}

-- no job has two outputs for the same bytes
abbrev pub OneAnswer : Type 0
OneAnswer = (job : Job) (given a b : List ℕ) → Answer job given a → Answer job given b → a ≡ b

-- no job has two outcomes on the same bytes
abbrev pub OneOutcome : Type 0
OneOutcome = (job : Job) (given : List ℕ) (x y : Result (List ℕ) Fault) → Outcome job given x → Outcome job given y → x ≡ y
