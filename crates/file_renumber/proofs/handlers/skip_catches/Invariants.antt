use Rattle.std.proofs.Common.{ℕ, List, drop}
use Rattle.dex_base.specs.Grammar.{Takes, Each, Many}
use Rattle.program_types.specs.Content.{Catch}
use Rattle.tables_rows.specs.Stands.{NameStands}
use Rattle.code_read.specs.inner.Handlers.{SpellsCatch}
use Rattle.file_renumber.proofs.handlers.skip_catches.Given as goal

abbrev pub invariant-loop-turn : goal.invariant-loop-turn
invariant-loop-turn l = (b ss : List ℕ) (cs : List Catch) (rest : List ℕ) → Takes (Many (SpellsCatch (NameStands b) ss) l.count) l.bytes cs rest → Takes (Each (SpellsCatch (NameStands b) ss)) l.left (drop l._turn cs) rest
