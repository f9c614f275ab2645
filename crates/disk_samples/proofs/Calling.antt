-- Calls on a disk, as each call of a `World`.
use Rattle.std.specs.Prelude.{Result, Ok, Err, OnOk, Vec}
use Rattle.std.specs.Global.{Global}
use Rattle.std.specs.Borrow.{Bor}
use Rattle.std.proofs.Common.{◌≡◌, ◌≢◌, ◌⊎◌, inl, inr, ℕ, Bool, true, false, ◌+◌, ◌<◌, None, Some, length, take, List, [], ◌∷◌, ◌++◌, append_assoc, refl, sym, ◌∙◌, ap, subst, arith}
use Rattle.std.proofs.lemmas.List.Elements.{All-nil, All-cons}
use Rattle.dexasm_world.specs.State.{Path, FileState, Stored, Passes}
use Rattle.dexasm_world.specs.Steps.{private_mode}
use Rattle.dexasm_world.specs.inner.Steps.{Same, Made, MadeAs, Wrote, Moved, Removed}
use Rattle.dexasm_world.specs.FileKinds.{Caused, RefusedFor}
use Rattle.dexasm_world.specs.declared.world.Refusal.{Refusal}
use Rattle.dexasm_world.specs.declared.world.Refusal.TheVariants.{Memory, Missing, Other}
use Rattle.disk_samples.specs.Logs.{step, state_of, moments_before, no_files, fault_count, leftover_count, faults_in, leftovers_in, AreMadeBefore}
use Rattle.disk_samples.specs.Disks.{Calls, Fails, Gains, TurnsDown, Stays, files_of, paths_at}
use Rattle.disk_samples.specs.declared.change.Change.{Change}
use Rattle.disk_samples.specs.declared.change.Change.TheVariants.{Nothing, Make, Write, Move, Remove}
use Rattle.disk_samples.specs.declared.change.Outcome.{Outcome}
use Rattle.disk_samples.specs.declared.change.Outcome.TheVariants.{Done, Failed}
use Rattle.disk_samples.specs.declared.change.Entry.{Entry}
use Rattle.disk_samples.specs.declared.disk.Disk.{Disk}
use Rattle.disk_samples.proofs.Stepping.{before_more, file_here, faults_more, leftovers_more, state_more, unchanged, made_so, wrote_so, moved_so, removed_so}

stays_now : (d e : Disk) → Stays d e → (files_of e).now ≡ (files_of d).now
stays_now d e k = ap state_of k.log

stays_pass : (d e : Disk) (P : FileState → Type 0) → Stays d e → P (files_of d).now → Passes (files_of d) (files_of e) P
stays_pass d e P k p = record {
  same_paths = λ i. paths_at (k.names i).now (k.manner i);
  moments = [];
  goes_on = ap (λ log. moments_before no_files log ++ state_of log ∷ []) k.log;
  each = All-nil P;
  last = subst P (sym (stays_now d e k)) p;
  later = omega (arith, ap faults_in k.log);
  no_fewer = omega (arith, ap leftovers_in k.log);
}

pub gains_now : (d e : Disk) (x : Entry) → Gains d e x → (files_of e).now ≡ step x.change (files_of d).now
gains_now d e x g = ap state_of g.log ∙ state_more d.log.items x

gains_faults : (d e : Disk) (x : Entry) → Gains d e x → (files_of e).faults ≡ (files_of d).faults + fault_count x.outcome
gains_faults d e x g = ap faults_in g.log ∙ faults_more d.log.items x

gains_leftovers : (d e : Disk) (x : Entry) → Gains d e x → (files_of e).leftovers ≡ (files_of d).leftovers + leftover_count x.outcome
gains_leftovers d e x g = ap leftovers_in g.log ∙ leftovers_more d.log.items x

pub gains_pass : (d e : Disk) (x : Entry) (P : FileState → Type 0) → Gains d e x → P (step x.change (files_of d).now) → Passes (files_of d) (files_of e) P
gains_pass d e x P g p =
    let s : FileState = state_of d.log.items in
    let t : FileState = state_of e.log.items in
    let is : P t = subst P (sym (gains_now d e x g)) p in
    record {
      same_paths = λ i. paths_at (g.names i).now (g.manner i);
      moments = t ∷ [];
      goes_on = ap (λ l. l ++ t ∷ []) (ap (moments_before no_files) g.log ∙ before_more no_files d.log.items x) ∙ append_assoc (moments_before no_files d.log.items) (s ∷ []) (t ∷ []);
      each = All-cons P t [] is (All-nil P);
      last = is;
      later = omega (arith, gains_faults d e x g);
      no_fewer = omega (arith, gains_leftovers d e x g);
    }

-- a failure's change is that of the call, or nothing
pub fails_pass : (c : Change) (x : Outcome) (d e : Disk) (P : FileState → Type 0) → Fails c x d e → P (files_of d).now → P (step c (files_of d).now) → Passes (files_of d) (files_of e) P
fails_pass c x d e P f same done = gains_pass d e (record { change = f.made; outcome = x }) P f.gains (elim f.which [
  | inl is ↦ subst (λ m. P (step m (files_of d).now)) (sym is) same
  | inr is ↦ subst (λ m. P (step m (files_of d).now)) (sym is) done
])

pub fails_fault : (c : Change) (x : Outcome) (d e : Disk) → fault_count x ≡ 1 → Fails c x d e → (files_of d).faults < (files_of e).faults
fails_fault c x d e one f = omega (arith, gains_faults d e (record { change = f.made; outcome = x }) f.gains, one)

pub fails_leftover : (c : Change) (x : Outcome) (d e : Disk) → leftover_count x ≡ 1 → Fails c x d e → (files_of d).leftovers < (files_of e).leftovers
fails_leftover c x d e one f = omega (arith, gains_leftovers d e (record { change = f.made; outcome = x }) f.gains, one)

pub calls_pass : {T : Type 0} (c : Change) (x : Outcome) (d e : Disk) (r : Result T Refusal) (P : FileState → Type 0) → Calls c x d e r → P (files_of d).now → P (step c (files_of d).now)
    → Passes (files_of d) (files_of e) P
calls_pass c x d e (Ok r) P g same done = gains_pass d e (record { change = c; outcome = Done }) P g done
calls_pass c x d e (Err refusal) P h same done = elim h [
  | inl k ↦ stays_pass d e P k.1 same
  | inr f ↦ fails_pass c x d e P f same done
]

-- for want of memory no cause is owed
memory_has_cause : (refusal : Refusal) (Cause : Type 0) → refusal ≡ Memory → RefusedFor refusal Cause
memory_has_cause refusal Cause is = subst (λ r. RefusedFor r Cause) (sym is) tt

always : (refusal : Refusal) (Cause : Type 0) → Cause → RefusedFor refusal Cause
always Memory Cause cause = tt
always Missing Cause cause = cause
always Other Cause cause = cause

pub refusal_cause : (T : Type 0) (c : Change) (x : Outcome) (d e : Disk) (refusal : Refusal) → fault_count x ≡ 1 → Calls {T = T} c x d e (Err refusal)
    → RefusedFor refusal ((files_of d).faults < (files_of e).faults)
refusal_cause T c x d e refusal one h = elim h [
  | inl k ↦ memory_has_cause refusal ((files_of d).faults < (files_of e).faults) k.0
  | inr f ↦ always refusal ((files_of d).faults < (files_of e).faults) (fails_fault c x d e one f)
]

pub calls_cause : {T : Type 0} (c : Change) (x : Outcome) (d e : Disk) (r : Result T Refusal) → fault_count x ≡ 1 → Calls c x d e r → Caused r ((files_of d).faults < (files_of e).faults)
calls_cause c x d e (Ok r) one h = tt
calls_cause {T} c x d e (Err refusal) one h = refusal_cause T c x d e refusal one h

-- nothing was done, or a name may have been left
pub refusal_leaves : (T : Type 0) (c : Change) (x : Outcome) (d e : Disk) (refusal : Refusal) → leftover_count x ≡ 1 → Calls {T = T} c x d e (Err refusal)
    → Same (files_of d).now (files_of e).now ⊎ ((files_of d).leftovers < (files_of e).leftovers)
refusal_leaves T c x d e refusal one h = elim h [
  | inl k ↦ inl (subst (Same (files_of d).now) (sym (stays_now d e k.1)) (unchanged (files_of d).now))
  | inr f ↦ inr (fails_leftover c x d e one f)
]

-- a refusal is a failure of a call that was to do nothing
pub refuses_calls : (T : Type 0) (d e : Disk) (refusal : Refusal) → TurnsDown d e refusal → Calls {T = T} Nothing Failed d e (Err refusal)
refuses_calls T d e refusal h = elim h [ inl k ↦ inl k | inr g ↦ inr (record { made = Nothing; which = inl refl; gains = g }) ]

-- a new file's number is its own
pub made_at : (d : Disk) (place : Bor Path) (path : Path) (n : ℕ) (bytes : Vec ℕ Global) (mode : ℕ) → place.now ≡ path → bytes.items ≡ [] → n ≡ length d.log.items
    → (files_of d).now.stands path ≡ None → AreMadeBefore d.log.items → Made path n (files_of d).now (step (Make place n bytes mode) (files_of d).now)
made_at d place path n bytes mode same empty new free numbered =
    let s : FileState = state_of d.log.items in
    let there : Made place.now n s (step (Make place n bytes mode) s) =
    made_so place n bytes mode s empty (ap s.stands same ∙ free) (λ p is. omega (arith, numbered p n is, new)) in
    subst (λ p. Made p n s (step (Make place n bytes mode) s)) same there

-- and it is private if it is to be
pub made_as : (d : Disk) (is_private : Bool) (place : Bor Path) (path : Path) (n : ℕ) (bytes : Vec ℕ Global) (mode : ℕ) → place.now ≡ path → bytes.items ≡ [] → n ≡ length d.log.items
    → (files_of d).now.stands path ≡ None → AreMadeBefore d.log.items → (is_private ≡ true → mode ≡ private_mode) → MadeAs is_private path n (files_of d).now (step (Make place n bytes mode) (files_of d).now)
made_as d is_private place path n bytes mode same empty new free numbered private = record {
  made = made_at d place path n bytes mode same empty new free numbered;
  mode = λ is. ap (λ (x : Stored). x.mode) (file_here n (record { bytes = bytes.items; mode = mode; kept = false }) (files_of d).now.file) ∙ private is;
}

-- a front of a piece was written
pub wrote_front : (n k : ℕ) (front : Vec ℕ Global) (piece : List ℕ) (s : FileState) → front.items ≡ take k piece → Wrote n (take k piece) s (step (Write n front) s)
wrote_front n k front piece s is = subst (λ l. Wrote n l s (step (Write n front) s)) is (wrote_so n front s)

pub moved_at : (old new : Bor Path) (from to : Path) (n : ℕ) (s : FileState) → old.now ≡ from → new.now ≡ to → s.stands from ≡ Some n → s.stands from ≢ s.stands to
    → Moved from to s (step (Move old new n) s)
moved_at old new from to n s is_old is_new there two =
    let apart : new.now ≢ old.now = λ e. two (ap s.stands (sym (sym is_new ∙ e ∙ is_old))) in
    let moved : Moved old.now new.now s (step (Move old new n) s) = moved_so old new n s (ap s.stands is_old ∙ there) apart in
    subst (λ a. Moved a to s (step (Move old new n) s)) is_old (subst (λ b. Moved old.now b s (step (Move old new n) s)) is_new moved)

pub removed_at : (place : Bor Path) (path : Path) (s : FileState) → place.now ≡ path → Removed path s (step (Remove place) s)
removed_at place path s is = subst (λ p. Removed p s (step (Remove place) s)) is (removed_so place s)

-- a call that is done has led where its change leads
pub calls_done : {T : Type 0} (c : Change) (x : Outcome) (d e : Disk) (r : Result T Refusal) (Q : FileState → Type 0) → Calls c x d e r → Q (step c (files_of d).now) → OnOk r (Q (files_of e).now)
calls_done c x d e (Ok r) Q g q = subst Q (sym (gains_now d e (record { change = c; outcome = Done }) g)) q
calls_done c x d e (Err refusal) Q h q = tt

-- an entry more after nothing
pub gains_after : (d a e : Disk) (x : Entry) → Stays d a → Gains a e x → Gains d e x
gains_after d a e x k g = record { log = g.log ∙ ap (λ l. l ++ x ∷ []) k.log; names = g.names ∙ k.names; manner = g.manner ∙ k.manner }

pub refuses_pass : (d e : Disk) (refusal : Refusal) (P : FileState → Type 0) → TurnsDown d e refusal → P (files_of d).now → Passes (files_of d) (files_of e) P
refuses_pass d e refusal P h p = calls_pass {T = Unit {0}} Nothing Failed d e (Err refusal) P (refuses_calls (Unit {0}) d e refusal h) p p

pub refuses_cause : (d e : Disk) (refusal : Refusal) → TurnsDown d e refusal → RefusedFor refusal ((files_of d).faults < (files_of e).faults)
refuses_cause d e refusal h = refusal_cause (Unit {0}) Nothing Failed d e refusal refl (refuses_calls (Unit {0}) d e refusal h)
