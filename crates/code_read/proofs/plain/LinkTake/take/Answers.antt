use Rattle.std.proofs.Common.{rules}
use Rattle.dex_insn.specs.Raw.{raw}
use Rattle.code_read.proofs.PlainLaws.{plain_body}
use Rattle.code_read.proofs.plain.LinkTake.take.Goals as goal

pub link-requires-clause-plain : goal.link-requires-clause-plain
link-requires-clause-plain c = plain_body (raw c.args.one) (search rules)
