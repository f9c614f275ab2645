use Rattle.std.proofs.Common.{lit<, refl, inl, inr}
use Rattle.dex_insn.specs.Raw.{raw}
use Rattle.bench.proofs.puts.put_data.Goals as goal

pub put_insn-requires : goal.put_insn-requires
unfolding raw
put_insn-requires c = (inr (inr (inl refl)), refl, lit< tt)
