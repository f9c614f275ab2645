-- Words that are no job.
use Rattle.std.proofs.Common.{◌≡◌, ◌≢◌, ◌⊎◌, inl, inr, sym, ◌∙◌}
use Rattle.clap.specs.Words.{IsAmong, fault_of}
use Rattle.clap.specs.declared.error.kind.ErrorKind.{ErrorKind}
use Rattle.clap.specs.declared.error.kind.ErrorKind.TheVariants.{DisplayHelp, DisplayVersion, OutOfMemory}
use Rattle.dexasm_plan.specs.Commands.{dexasm}
use Rattle.dexasm_command.specs.inner.Reported.{Misuses}
use Rattle.dexasm_command.specs.Served.{CommandRun, Serves}

-- the kind of what was answered is one of the words', where it isn't want of memory
among : (r : CommandRun) (kind : ErrorKind) → (kind ≡ OutOfMemory) ⊎ IsAmong kind (fault_of dexasm r.words) → kind ≢ OutOfMemory → IsAmong kind (fault_of dexasm r.words)
among r kind h other = elim h [ inl is ↦ absurd (other is) | inr a ↦ a ]

no_memory : (kind : ErrorKind) → (kind ≡ DisplayHelp) ⊎ (kind ≡ DisplayVersion) → kind ≢ OutOfMemory
no_memory kind h is = elim h [ inl help ↦ (let e = sym help ∙ is in cc) | inr version ↦ (let e = sym version ∙ is in cc) ]

pub misused : (r : CommandRun) (kind : ErrorKind) → (kind ≡ OutOfMemory) ⊎ IsAmong kind (fault_of dexasm r.words) → r.after.files ≡ r.before.files
    → Misuses r.terminals.errors kind r.before.taken r.after.taken r.after.output_failed r.errors_before r.errors_after r.errors_failed r.status → Serves r
misused r kind h files m = elim m [
  | inl shown ↦ inr (inl (record { kind = kind; requested = among r kind h (no_memory kind shown.0); is = shown.0; files = files; text = shown.1; shown = shown.2 }))
  | inr other ↦ elim other [
    | inl wrong ↦ inr (inr (inl (record {
      kind = kind;
      wrong = among r kind h wrong.2;
      no_help = wrong.0;
      no_version = wrong.1;
      nothing = record { files = files; output = wrong.3 };
      status = wrong.4;
    })))
    | inr unread ↦ inr (inr (inr (inl (record { nothing = record { files = files; output = unread.0 }; reported = unread.1 }))))
  ]
]
