-- What holds of codes that fit.
-- Pages: "Dalvik Executable instruction formats", the widths of fields; "Dalvik Executable format", "code_item" and "try_item".
use Rattle.std.specs.Prelude.{ℕ, ◌↔◌}
use Rattle.code_write.specs.Fits.{CodeBreaksLimit, FitsCode}
use Rattle.tables_names.specs.Closure.{Five, NameRanks}
use Rattle.program_types.specs.Content.{Code}

-- a code fits exactly if it breaks no limit
abbrev pub CodeLimitsAreDecided : Type 0
CodeLimitsAreDecided =
    (ranks : Five) (c : Code) → (FitsCode (NameRanks ranks) c ↔ ((number : ℕ) → ¬ CodeBreaksLimit (NameRanks ranks) c number))
