-- Whether a call on a source or a sink failed or met the end.
use Rattle.std.specs.Prelude.{ℕ, Bool, true, false, ◌==◌, ◌&&◌, List, length, nat_lt, Option, Some, None, Result, Ok, Err}

-- the call returned an error
abbrev pub call_failed : {E : Type 0} → Result ℕ E → Bool
call_failed (Ok n) = false
call_failed (Err e) = true

-- the call moved no byte of a nonempty piece
abbrev pub moved_none : {E : Type 0} → Result ℕ E → List ℕ → Bool
moved_none (Ok n) piece = (n == 0) && nat_lt 0 (length piece)
moved_none (Err e) piece = false

-- how many bytes a call moved, where it didn't fail
abbrev pub moved_by : {E : Type 0} → Result ℕ E → Option ℕ
moved_by (Ok n) = Some n
moved_by (Err e) = None
