-- What holds of the limits.
-- Page: "Dalvik Executable format", "header_item": file_size.
use Rattle.std.specs.Prelude.{◌≡◌, ◌↔◌, ℕ}
use Rattle.tables_names.specs.Closure.{Five}
use Rattle.program_types.specs.Content.{Program}
use Rattle.file_limits.specs.Limits.{Fits, LimitBreaks}
use Rattle.file_limits.specs.Wide.{wide_of}
use Rattle.file_limits.specs.inner.Wide.{wide_parts}

-- the sum over names and classes is the sum over the parts of the file
abbrev pub WideIsByParts : Type 0
WideIsByParts = (s : Five) (p : Program) → wide_of s p ≡ wide_parts s p

-- a program fits exactly if it breaks no limit
abbrev pub LimitsAreDecided : Type 0
LimitsAreDecided = (p : Program) → (Fits p ↔ ((number place : ℕ) → ¬ LimitBreaks p number place))
