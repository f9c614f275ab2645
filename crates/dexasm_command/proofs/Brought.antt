-- A job, carried out: it was run, and its answer was brought to where it goes.
use Rattle.std.specs.Prelude.{Result, Vec, IsErrAnd}
use Rattle.std.specs.Global.{Global}
use Rattle.std.specs.Borrow.{Bor}
use Rattle.std.proofs.Common.{◌≡◌, ◌⊎◌, inl, inr, ℕ, Bool, true, false, List, [], Option, Some, None, Ok, Err, ap, refl, subst, sym}
use Rattle.dexasm_world.specs.declared.job.Job.{Job}
use Rattle.dexasm_run.specs.Answers.{Answer}
use Rattle.dexasm_run.specs.declared.error.RunFault.{RunFault}
use Rattle.dexasm_run.specs.declared.error.RunFault.TheVariants.{Refused, Input, Output, Memory}
use Rattle.dexasm_world.specs.State.{Path, Files}
use Rattle.dexasm_command.specs.Carried.{Around, AnswersFile, AnswersFrom, IsUnreadable}
use Rattle.dexasm_command.specs.inner.Running.{BringsToOut, FailsToRead, RunsOn, RunsOnFile}
use Rattle.dexasm_command.proofs.Handing.{goes_to}

-- the answer was made, and brought to OUT, or put on standard output
pub brought : (job : Job) (out : Option (Bor Path)) (had left : Option (List ℕ)) (failed : Bool) (a b : Around) (made : Vec ℕ Global) (answer : List ℕ) (r : Result (Unit {0}) RunFault)
    → RunsOn job out had left failed a.taken b.taken b.output_failed (Ok made) → answer ≡ made.items → BringsToOut (a.known ≡ true) a.files b.files out answer r
    → AnswersFrom job out had left failed a b r
brought job None had left failed a b made answer (Ok x) run same h = (h.0, run)
brought job None had left failed a b made answer (Err fault) run same h = absurd (let e = h.1 in cc)
brought job (Some path) had left failed a b made answer r run same h =
    let answered = subst (λ (l : List ℕ). Answer job run.0.0 l) (sym same) run.0.2 in
    (goes_to job had left failed (a.known ≡ true) a.files b.files path.now run.0.0 answer r run.0.1 answered h, run.1)

-- no answer was made, and nothing is done
unmade : (job : Job) (out : Option (Bor Path)) (had left : Option (List ℕ)) (failed : Bool) (a b : Around) (fault : RunFault)
    → RunsOn job out had left failed a.taken b.taken b.output_failed (Err fault) → b.files ≡ a.files → AnswersFrom {T = Unit {0}} job out had left failed a b (Err fault)
unmade job None had left failed a b (Refused fault) run same = (same, run)
unmade job None had left failed a b Input run same = (same, run)
unmade job None had left failed a b Output run same = (same, run)
unmade job None had left failed a b Memory run same = (same, run)
unmade job (Some path) had left failed a b (Refused fault) run same = ((run.0, same), run.1)
unmade job (Some path) had left failed a b Input run same = ((run.0, same), run.1)
unmade job (Some path) had left failed a b Output run same = absurd run.0
unmade job (Some path) had left failed a b Memory run same = (inl same, run.1)

-- a failure that is passed on is that failure
pub failed_by : (r : Result (Unit {0}) RunFault) (fault : RunFault) → IsErrAnd r (λ e. e ≡ fault) → r ≡ Err fault
failed_by (Ok x) fault h = absurd h
failed_by (Err e) fault h = ap (λ x. Err x) h

-- what an answer to be delivered failed by, the whole run fails by
as_reported : (known : Type 0) (f : Files) (path : Path) (fault : RunFault) → FailsToRead {T = Vec ℕ Global} known f path (Err fault) → FailsToRead {T = Unit {0}} known f path (Err fault)
as_reported known f path (Refused fault) h = absurd (elim h [ inl t ↦ (let e = t.0 in cc) | inr t ↦ (let e = t in cc) ])
as_reported known f path Input h = elim h [ inl t ↦ inl (refl, t.1) | inr t ↦ absurd (let e = t in cc) ]
as_reported known f path Output h = absurd (elim h [ inl t ↦ (let e = t.0 in cc) | inr t ↦ (let e = t in cc) ])
as_reported known f path Memory h = inr refl

-- the same of what FILE holds
pub file_unmade : (job : Job) (path : Path) (out : Option (Bor Path)) (a b : Around) (fault : RunFault)
    → RunsOnFile (a.known ≡ true) a.files path job out a.taken b.taken b.output_failed (Err fault) → b.files ≡ a.files → b.left ≡ a.left
    → IsUnreadable {T = Unit {0}} path a b (Err fault) ⊎ AnswersFile {T = Unit {0}} job path out a b (Err fault)
file_unmade job path out a b fault run same unread = elim run [
  | inl u ↦ inl (record { reported = as_reported (a.known ≡ true) a.files path fault u.0; untouched = same; kept = u.1 })
  | inr w ↦ inr (unread, w.0, w.1, unmade job out (Some w.0) (Some []) false a b fault w.2 same)
]

pub file_brought : (job : Job) (path : Path) (out : Option (Bor Path)) (a b : Around) (made : Vec ℕ Global) (answer : List ℕ) (r : Result (Unit {0}) RunFault)
    → RunsOnFile (a.known ≡ true) a.files path job out a.taken b.taken b.output_failed (Ok made) → answer ≡ made.items
    → BringsToOut (a.known ≡ true) a.files b.files out answer r → b.left ≡ a.left → AnswersFile job path out a b r
file_brought job path out a b made answer r run same h unread = elim run [
  | inl u ↦ absurd (elim u.0 [ inl t ↦ (let e = t.0 in cc) | inr t ↦ (let e = t in cc) ])
  | inr w ↦ (unread, w.0, w.1, brought job out (Some w.0) (Some []) false a b made answer r w.2 same h)
]
