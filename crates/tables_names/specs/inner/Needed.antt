-- Beside Needed.antt: what no promise reaches.
use Rattle.std.specs.Prelude.{◌≡◌, List}
use Rattle.std.specs.List.{AllByRecursion}
use Rattle.program_types.specs.Content.{Name, Program}
use Rattle.program_types.specs.Mentions.{mentions}
use Rattle.tables_names.specs.Closure.{Five, IsPart, IsClosed, AreRising}
use Rattle.tables_names.specs.inner.Closure.{Holds}
use Rattle.tables_names.specs.Needed.{needed}

-- These are the least sets that hold the names and with each name its parts.
pub record IsLeast (names : List Name) (s : Five) : Type 0 where
  pub closed : IsClosed s
  pub holds : AllByRecursion (Holds s) names
  pub least : (t : Five) → IsClosed t → AllByRecursion (Holds t) names → IsPart s t

-- The needed names are such sets, as rising lists.
abbrev pub NeededIsLeast : Type 0
NeededIsLeast = (p : Program) → AreRising (needed p) × IsLeast (mentions p) (needed p)

-- There are no other such sets.
abbrev pub LeastIsNeeded : Type 0
LeastIsNeeded = (p : Program) (s : Five) → AreRising s → IsLeast (mentions p) s → s ≡ needed p
