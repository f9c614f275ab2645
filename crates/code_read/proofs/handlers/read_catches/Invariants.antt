use Rattle.std.proofs.Common.{◌≡◌, length, map}
use Rattle.dex_base.specs.Grammar.{Takes, Each}
use Rattle.program_types.specs.View.{catch}
use Rattle.tables_rows.specs.Names.{NameIsAt}
use Rattle.code_read.specs.inner.Handlers.{SpellsCatch}
use Rattle.code_read.proofs.handlers.read_catches.Given as goal

abbrev pub invariant-loop-turn : goal.invariant-loop-turn
invariant-loop-turn l = record {
  taken : Takes (Each (SpellsCatch (NameIsAt l.tables) l.starts)) l.bytes (map catch l.all.items) l.left;
  counted : length l.all.items ≡ l._turn;
}
