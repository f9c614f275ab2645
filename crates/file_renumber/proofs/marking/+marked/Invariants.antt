use Rattle.std.proofs.Common.{ℕ, ◌+◌, ◌*◌, ◌≤◌, List, length}
use Rattle.dex_base.specs.Grammar.{Takes, Many}
use Rattle.program_types.specs.Content.{Value}
use Rattle.tables_rows.specs.Stands.{NameStands}
use Rattle.dex_value.specs.Spelling.{SpellsValue}
use Rattle.file_renumber.proofs.ValueMarks.{Walked}
use Rattle.file_renumber.proofs.marking.+marked.Given as goal

abbrev pub decreases-mark_value : goal.decreases-mark_value
decreases-mark_value l = 2 * length l.bytes.now

abbrev pub decreases-mark_values : goal.decreases-mark_values
decreases-mark_values l = 2 * length l.bytes.now + 1

abbrev pub invariant-mark_values-loop-turn : goal.invariant-mark_values-loop-turn
invariant-mark_values-loop-turn l = record {
  walked : (vs : List Value) (rest : List ℕ) → Takes (Many (SpellsValue (NameStands l.sections)) l.count) l.bytes vs rest → Walked l.sections l.fn.marks l.marks l.sum l.left l._turn vs rest;
  short : length l.left ≤ length l.bytes;
}
