use Rattle.std.proofs.Common.{map, get_or}
use Rattle.dex_insn.specs.Raw.{raw}
use Rattle.program_types.specs.View.{insn}
use Rattle.tables_rows.specs.Names.{NameIsAt}
use Rattle.code_read.specs.Walk.{raw_at}
use Rattle.code_read.specs.inner.InsnReading.{IsHalfLinked}
use Rattle.code_read.proofs.Lists.{EachSoFar}
use Rattle.code_read.proofs.insns.half_link.Given as goal

abbrev pub invariant-loop-k : goal.invariant-loop-k
invariant-loop-k l = EachSoFar (λ k. IsHalfLinked (NameIsAt l.tables) l.starts (get_or l.starts k 0) (raw_at (map raw l.insns) k)) (map insn l.half.items) l.k
