use Rattle.tables_rows.specs.Names.{NameIsAt}
use Rattle.code_read.proofs.InsnsOnce.{NameIsAt-functional}
use Rattle.code_read.proofs.OneInsnFault.{insns_one_fault}
use Rattle.code_read.proofs.insn_laws.insns_break_one_rule.Goals as goal

pub returns : goal.returns
returns c = λ names us base. insns_one_fault (NameIsAt names) us base (NameIsAt-functional names)
