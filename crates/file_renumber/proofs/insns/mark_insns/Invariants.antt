use Rattle.std.proofs.Common.{◌*◌, ◌-◌, ◌≤◌, List, length}
use Rattle.dex_insn.specs.Raw.{Raw}
use Rattle.program_types.specs.Content.{Insn}
use Rattle.tables_rows.specs.Stands.{NameStands}
use Rattle.code_read.specs.Linked.{SpellsInsns}
use Rattle.file_renumber.proofs.WalkLemmas.{MarkedTo}
use Rattle.file_renumber.proofs.insns.mark_insns.Given as goal

abbrev pub invariant-loop-at : goal.invariant-loop-at
invariant-loop-at l = record {
  marked : (rs : List Raw) (is : List Insn) → SpellsInsns (NameStands l.sections) l.units rs is → MarkedTo l.sections l.fn.marks l.marks l.units l.at is;
  inside : 2 * l.at ≤ length l.units;
}

abbrev pub decreases-loop-at : goal.decreases-loop-at
decreases-loop-at l = l.end - l.at
