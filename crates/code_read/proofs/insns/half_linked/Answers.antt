use Rattle.std.proofs.Common.{rules}
use Rattle.program_types.specs.View.{insn}
use Rattle.tables_rows.specs.Names.{NameIsAt}
use Rattle.code_read.proofs.LinkLaws.{at_raw}
use Rattle.code_read.proofs.ReadLaws.{half-payload, half-plain}
use Rattle.code_read.proofs.insns.half_linked.Goals as goal
use Rattle.std.proofs.lemmas.Option.{IfSome_then}

pub returns-then-is_payload-clause-some : goal.returns-then-is_payload-clause-some
returns-then-is_payload-clause-some c = half-payload (NameIsAt c.args.tables.now) c.args.insns.now c.args.starts.now _ c.args.k _ (search rules) c.empty_payload.ensures

pub returns-clause-some : goal.returns-clause-some
returns-clause-some c = IfSome_then c.link.result c.link.ensures.some (λ i s. half-plain (NameIsAt c.args.tables.now) c.args.insns.now c.args.starts.now _ c.args.k (insn i) s)

pub returns-clause-none : goal.returns-clause-none
returns-clause-none c = rw at_raw c.link.ensures.none
