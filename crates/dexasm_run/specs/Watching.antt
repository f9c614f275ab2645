-- What callers see of a watched reader or writer.
use Rattle.std.specs.Prelude.{Bool}
use Rattle.dexasm_run.specs.declared.watched.Watched.{Watched}

module _ {T : Type 0} where
  -- the reader or the writer
  abbrev pub watched_inner : Watched T → T
  watched_inner w = w.inner

  -- whether a call on it failed
  abbrev pub watched_failed : Watched T → Bool
  watched_failed w = w.has_failed

  -- whether a call on it met its end
  abbrev pub watched_ended : Watched T → Bool
  watched_ended w = w.has_ended
