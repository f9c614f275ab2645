-- A run on what FILE holds.
use Rattle.std.specs.Prelude.{Result, Vec, cond, ⊤}
use Rattle.std.specs.Global.{Global}
use Rattle.std.specs.Borrow.{Bor}
use Rattle.std.specs.Io.KnownBytes.{Consumes, IsAtEnd}
use Rattle.std.proofs.Common.{◌≡◌, inl, inr, ℕ, Bool, true, false, List, ◌++◌, append-nil, Option, Some, None, Ok, Err, ap, refl, subst, sym, ◌∙◌}
use Rattle.dexasm_world.specs.declared.job.Job.{Job}
use Rattle.dexasm_run.specs.Runs.{IsAllGiven, MatchRun}
use Rattle.dexasm_run.specs.declared.error.RunFault.{RunFault}
use Rattle.dexasm_run.specs.declared.error.RunFault.TheVariants.{Refused, Input, Output, Memory}
use Rattle.dexasm_world.specs.State.{Path, Files, place_of}
use Rattle.dexasm_world.specs.FileKinds.{IsBarredAt, IsHeld, RefusedFor}
use Rattle.dexasm_world.specs.inner.FileKinds.{Gives}
use Rattle.dexasm_world.specs.declared.world.Refusal.{Refusal}
use Rattle.dexasm_world.specs.declared.world.Refusal.TheVariants.{Missing, Memory as NoMemory, Other}
use Rattle.dexasm_command.specs.inner.Running.{FailsToRead, RunsOn, RunsOnFile, failure_of, file_outcome}
use Rattle.dexasm_command.proofs.Handing.{all_known}

-- all that a known reader gives is what it had
all_of_known : (bytes : List ℕ) (left : Option (List ℕ)) (given : List ℕ) → Consumes (Some bytes) left given → IsAtEnd left → given ≡ bytes
all_of_known bytes None given gave end = absurd gave
all_of_known bytes (Some rest) given gave end = sym (gave ∙ ap (λ l. given ++ l) end ∙ append-nil given)

-- what a reader of FILE gave up to its end is what FILE holds, where clauses can speak of it
held : (known : Bool) (f : Files) (path : Path) (had left : Option (List ℕ)) (given : List ℕ) → (known ≡ true → Gives f path had)
    → IsAllGiven (cond known had None) left given → known ≡ true → IsHeld f path given
held true f path had left given gives all k = λ no_device.
    let is = gives k no_device in
    (is.0, is.1, all_of_known ((f.now.file is.0).bytes) left given (subst (λ (o : Option (List ℕ)). Consumes o left given) is.2 all.gave) all.end)
held false f path had left given gives all k = absurd (let e = k in cc)

-- a read of it was refused
unread : (known : Type 0) (f : Files) (path place : Path) (refusal : Refusal) → (known → place ≡ place_of f path) → (known → RefusedFor refusal (IsBarredAt f place))
    → FailsToRead {T = Vec ℕ Global} known f path (Err (failure_of refusal))
unread known f path place NoMemory here why = inr refl
unread known f path place Missing here why = inl (refl, λ k. inr (subst (IsBarredAt f) (here k) (why k)))
unread known f path place Other here why = inl (refl, λ k. inr (subst (IsBarredAt f) (here k) (why k)))

pub on_file : (known : Bool) (f : Files) (path place : Path) (job : Job) (out : Option (Bor Path)) (had left : Option (List ℕ)) (failed : Bool) (taken takes : Option (List ℕ)) (output_failed : Bool)
    (made : Result (Vec ℕ Global) RunFault) (refusal : Option Refusal) → (known ≡ true → Gives f path had × (place ≡ place_of f path))
    → RunsOn job out (cond known had None) left failed taken takes output_failed made
    → MatchRun made ⊤ (λ _. ⊤) ((why : Refusal) × (refusal ≡ Some why) × (known ≡ true → RefusedFor why (IsBarredAt f place))) ⊤ ⊤
    → RunsOnFile (known ≡ true) f path job out taken takes output_failed (file_outcome made refusal)
on_file known f path place job None had left failed taken takes output_failed (Ok made) refusal opened h why =
    inr (h.0, held known f path had left h.0 (λ k. (opened k).0) h.2, (h.0, h.1, all_known h.0, h.3, h.4))
on_file known f path place job None had left failed taken takes output_failed (Err (Refused fault)) refusal opened h why =
    inr (h.0.0, held known f path had left h.0.0 (λ k. (opened k).0) h.0.1, ((h.0.0, all_known h.0.0, h.0.2), h.1))
on_file known f path place job None had left failed taken takes output_failed (Err Input) refusal opened h why =
    rw why.1 (inl (unread (known ≡ true) f path place why.0 (λ k. (opened k).1) why.2, h.1))
on_file known f path place job None had left failed taken takes output_failed (Err Output) refusal opened h why =
    let a = h.1 in
    inr (a.0, held known f path had left a.0 (λ k. (opened k).0) a.3, (h.0, (a.0, a.1, a.2, all_known a.0, a.4, a.5, a.6)))
on_file known f path place job None had left failed taken takes output_failed (Err Memory) refusal opened h why = inl (inr refl, h)
on_file known f path place job (Some to) had left failed taken takes output_failed (Ok made) refusal opened h why =
    inr (h.0.0, held known f path had left h.0.0 (λ k. (opened k).0) h.0.1, ((h.0.0, all_known h.0.0, h.0.2), h.1))
on_file known f path place job (Some to) had left failed taken takes output_failed (Err (Refused fault)) refusal opened h why =
    inr (h.0.0, held known f path had left h.0.0 (λ k. (opened k).0) h.0.1, ((h.0.0, all_known h.0.0, h.0.2), h.1))
on_file known f path place job (Some to) had left failed taken takes output_failed (Err Input) refusal opened h why =
    rw why.1 (inl (unread (known ≡ true) f path place why.0 (λ k. (opened k).1) why.2, h.1))
on_file known f path place job (Some to) had left failed taken takes output_failed (Err Output) refusal opened h why = absurd h.0
on_file known f path place job (Some to) had left failed taken takes output_failed (Err Memory) refusal opened h why = inl (inr refl, h.1)
