-- Beside Runs.antt: what no promise reaches.
use Rattle.std.specs.Prelude.{◌≡◌, ℕ, Bool, true, List, Option, ⊤, Result, Ok, Err, Vec}
use Rattle.std.specs.Global.{Global}
use Rattle.dexasm_run.specs.declared.error.RunFault.{RunFault}
use Rattle.dexasm_run.specs.declared.error.RunFault.TheVariants.{Input, Memory}
use Rattle.dexasm_run.specs.Runs.{IsAllGiven}

-- reading to the end: the bytes given, or why not
abbrev pub ReadsAll : Option (List ℕ) → Option (List ℕ) → Bool → Bool → Result (Vec ℕ Global) RunFault → Type 0
ReadsAll old new failed ended (Ok given) = IsAllGiven old new given.items × (ended ≡ true)
ReadsAll old new failed ended (Err Memory) = ⊤
ReadsAll old new failed ended (Err Input) = failed ≡ true
ReadsAll old new failed ended (Err _) = ⊥
