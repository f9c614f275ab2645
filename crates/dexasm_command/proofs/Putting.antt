-- What was put, whichever way it ended.
use Rattle.std.proofs.Common.{ℕ, Bool, true, false, List, [], Option, inl, inr, Ok, Err, refl}
use Rattle.std.specs.Prelude.{Result}
use Rattle.dexasm_run.specs.Runs.{WritesAll}
use Rattle.dexasm_run.specs.declared.error.RunFault.{RunFault}
use Rattle.dexasm_run.specs.declared.error.RunFault.TheVariants.{Refused, Input, Output, Memory}
use Rattle.dexasm_command.specs.Reported.{IsMore, PutsLine}

pub puts : {T : Type 0} (held holds : Option (List ℕ)) (failed : Bool) (text : List ℕ) (r : Result T RunFault) → WritesAll held holds failed text r → PutsLine held holds failed text
puts held holds failed text (Ok x) h = inl h
puts held holds failed text (Err Output) h = inr (h.0, h.1, h.3)
puts held holds failed text (Err Input) h = absurd h
puts held holds failed text (Err Memory) h = absurd h
puts held holds failed text (Err (Refused fault)) h = absurd h

-- of want of memory no more is told
pub no_more : (terminal : Bool) → IsMore terminal Memory []
no_more false = refl
no_more true = refl
