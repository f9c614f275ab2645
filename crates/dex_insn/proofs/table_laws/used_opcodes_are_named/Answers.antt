use Rattle.dex_insn.proofs.Rows.{used_named, named_used}
use Rattle.dex_insn.proofs.table_laws.used_opcodes_are_named.Goals as goal

pub returns-clause-used : goal.returns-clause-used
returns-clause-used c = used_named

pub returns-clause-named : goal.returns-clause-named
returns-clause-named c = named_used
