use Rattle.dex_base.proofs.Sequences.{IsRead}
use Rattle.dex_base.proofs.leb128.read_sequence.Given as goal

abbrev pub invariant-loop-i : goal.invariant-loop-i
invariant-loop-i l = IsRead l.bytes l.i l.number l.scale
