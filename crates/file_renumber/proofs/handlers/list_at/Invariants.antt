use Rattle.std.proofs.Common.{ℕ, List, length}
use Rattle.dex_base.specs.Grammar.{Takes}
use Rattle.tables_rows.specs.Stands.{NameStands}
use Rattle.code_read.specs.Handlers.{Handler, SpellsList}
use Rattle.file_renumber.proofs.ListLemmas.{ListedTo}
use Rattle.file_renumber.proofs.handlers.list_at.Given as goal

abbrev pub invariant-loop-turn : goal.invariant-loop-turn
invariant-loop-turn l = (b ss : List ℕ) (hs : List (ℕ × Handler)) (rest : List ℕ) → Takes (SpellsList (NameStands b) ss) l.bytes hs rest
    → ListedTo (NameStands b) ss (length l.bytes) l.left l._turn hs rest l.offsets.items l.catches.items
