-- Beside Carried.antt: what no promise reaches.
use Rattle.std.specs.Prelude.{ℕ, List, Result}
use Rattle.dexasm_run.specs.Runs.{MatchRun}
use Rattle.dexasm_run.specs.declared.error.RunFault.{RunFault}
use Rattle.dexasm_world.specs.State.{Path, Files, Passes}
use Rattle.dexasm_world.specs.Safe.{IsSafe, IsDelivered, IsTidy, IsAbandoned}
use Rattle.dexasm_world.specs.FileKinds.{CauseAt}

-- An answer is brought to OUT, or there is a cause why it isn't, unless memory ran out.
abbrev pub HandsOver : {T : Type 0} → Type 0 → Files → Files → Path → List ℕ → Result T RunFault → Type 0
HandsOver known f g out answer result = MatchRun result
    (known → Passes f g (IsSafe f out answer) × IsDelivered f out answer g.now × IsTidy f out g)
    (λ fault. ⊥)
    ⊥
    (known → Passes f g (IsSafe f out answer) × CauseAt out f g × IsAbandoned f out answer g)
    (known → Passes f g (IsSafe f out answer) × IsAbandoned f out answer g)
