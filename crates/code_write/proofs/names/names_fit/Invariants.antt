use Rattle.std.proofs.Common.{ℕ, ◌<◌, map}
use Rattle.program_types.specs.View.{insn}
use Rattle.program_types.specs.Formed.{insn_at}
use Rattle.tables_names.specs.Closure.{NameRanks}
use Rattle.code_write.specs.Fits.{ShortFits}
use Rattle.code_write.proofs.names.names_fit.Given as goal

abbrev pub invariant-loop-k : goal.invariant-loop-k
invariant-loop-k l = (k : ℕ) → k < l.k → ShortFits (NameRanks l.ranks) l.kind (insn_at (map insn l.insns) k)
