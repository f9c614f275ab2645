use Rattle.std.proofs.Common.{drop, map}
use Rattle.std.specs.List.{flat_map}
use Rattle.program_types.specs.Mentions.{names_of_insn}
use Rattle.program_types.specs.View.{insn}
use Rattle.tables_names.specs.Closure.{NameRanks}
use Rattle.tables_names.specs.Noted.{AreRanks}
use Rattle.code_write.proofs.PutLaws.{PutSome}
use Rattle.code_write.proofs.insns.put_insns.Given as goal

-- so many are put, and these are the indices of those that are left
abbrev pub invariant-loop-k : goal.invariant-loop-k
invariant-loop-k l =
    record {
      put : PutSome (NameRanks l.ranks) (map insn l.insns) l.starts l.fn.out.items l.out.items l.k;
      rest : AreRanks l.ranks (flat_map names_of_insn (map insn (drop l.k l.insns))) l.rest;
    }
