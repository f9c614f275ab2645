use Rattle.std.proofs.Common.{map, get_or}
use Rattle.dex_insn.specs.Raw.{raw}
use Rattle.program_types.specs.View.{insn}
use Rattle.tables_rows.specs.Names.{NameIsAt}
use Rattle.code_read.specs.Walk.{raw_at}
use Rattle.code_read.specs.Linked.{target_number}
use Rattle.code_read.specs.Symbols.{Resolves}
use Rattle.code_read.proofs.Lists.{EachInPlace}
use Rattle.code_read.proofs.insns.link_payloads.Given as goal

abbrev pub invariant-loop-k : goal.invariant-loop-k
invariant-loop-k l = EachInPlace (λ k. Resolves (NameIsAt l.tables) (target_number l.starts (get_or l.starts (get_or l.origins k 0) 0)) (raw_at (map raw l.insns) k)) (map insn l.initial.half) (map insn l.half) l.k
