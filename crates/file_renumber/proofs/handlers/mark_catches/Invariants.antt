use Rattle.std.proofs.Common.{ℕ, List}
use Rattle.dex_base.specs.Grammar.{Takes, Many}
use Rattle.program_types.specs.Content.{Catch}
use Rattle.tables_rows.specs.Stands.{NameStands}
use Rattle.code_read.specs.inner.Handlers.{SpellsCatch}
use Rattle.file_renumber.proofs.HandlerLemmas.{MarkedCatches}
use Rattle.file_renumber.proofs.handlers.mark_catches.Given as goal

abbrev pub invariant-loop-turn : goal.invariant-loop-turn
invariant-loop-turn l = (ss : List ℕ) (cs : List Catch) (rest : List ℕ) → Takes (Many (SpellsCatch (NameStands l.sections) ss) l.count) l.bytes cs rest → MarkedCatches l.sections ss l.fn.marks l.marks l.left l._turn cs rest
