-- Beside Once.antt: what no promise reaches.
use Rattle.std.specs.Prelude.{◌≡◌, ℕ, List, false}
use Rattle.dexasm_world.specs.declared.job.Job.TheVariants.{List as Listing, Assemble, Strip}
use Rattle.dexasm_run.specs.Answers.{Answer}

-- what is listed of a file and assembled is what is stripped of it
abbrev pub ListedAndAssembledIsStripped : Type 0
ListedAndAssembledIsStripped =
    (file text made small : List ℕ) → Answer Listing file text → Answer (Assemble false) text made → Answer Strip file small → made ≡ small
