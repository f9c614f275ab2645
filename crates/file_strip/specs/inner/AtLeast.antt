-- Beside AtLeast.antt: what no promise reaches.
use Rattle.std.specs.Prelude.{ℕ, ◌≤◌, List, length}
use Rattle.dex_base.specs.Fields.{AreBytes}
use Rattle.code_read.specs.Code.{CodeStands}
use Rattle.code_write.specs.Fits.{AllInsns, AllNumbers, AllTries, IsEven, OffsetsFit, ShortFits, TryFits}
use Rattle.dex_container.specs.Frame.{IsFramed}
use Rattle.dex_insn.specs.declared.opcode.IndexKind.{IndexKind}
use Rattle.tables_names.specs.Closure.{Five, NameRanks}
use Rattle.program_types.specs.Content.{Code, Name}
use Rattle.tables_rows.specs.Stands.{NameStands}

-- The code fits: indices, offsets, addresses of payloads, and tries, but for how far handlers are.
pub record FitsButHandlers (N : ℕ → Name → Type 0) (c : Code) : Type 0 where
  pub names : (kind : IndexKind) → AllInsns (ShortFits N kind) c
  pub offsets : AllNumbers OffsetsFit c
  pub even : AllNumbers IsEven c
  pub tries : AllTries TryFits c
  pub few : length c.tries ≤ 65535

-- None of these names has a rank above a row that stands for it.
abbrev pub AreNoFurther : Five → List ℕ → Type 0
AreNoFurther s b = (name : Name) (row rank : ℕ) → NameStands b row name → NameRanks s rank name → rank ≤ row

-- What stands as a code in a file fits by the ranks of names, where none is above a row.
abbrev pub CodesFit : Type 0
CodesFit =
    (b : List ℕ) (s : Five) (off : ℕ) (c : Code)
    → AreBytes b → IsFramed b → CodeStands (NameStands b) b off c → AreNoFurther s b → FitsButHandlers (NameRanks s) c
