use Rattle.std.proofs.Common.{List, ◌*◌, ◌≤◌, length}
use Rattle.program_types.specs.Content.{Insn}
use Rattle.tables_rows.specs.Names.{NameIsAt}
use Rattle.code_read.proofs.PlainLaws.{PlainRun}
use Rattle.code_read.proofs.plain.insns_at.Given as goal

abbrev pub invariant-loop-k : goal.invariant-loop-k
invariant-loop-k g l = record {
  run : (is : List Insn) × PlainRun (NameIsAt l.tables) l.units l.starts l.registers is l.k l.at × g.K.Keep.insns l.found is;
  within : 2 * l.at ≤ length l.units;
}
