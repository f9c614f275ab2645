use Rattle.std.proofs.Common.{ap, map, Option}
use Rattle.dex_insn.specs.declared.opcode.Format.{Format}
use Rattle.listing_slots.specs.inner.View.{datum}
use Rattle.listing_lines.specs.Lines.{insn_of}
use Rattle.listing_lines.proofs.lines.make_insn.Goals as goal

pub returns-in-None : goal.returns-in-None
unfolding insn_of
returns-in-None c = ap (λ (f : Option Format). insn_of f c.args.op (map datum c.args.word_values.now)) c.in-None.ensures
