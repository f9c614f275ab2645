use Rattle.std.proofs.lemmas.Result.{on_ok_weaker}
use Rattle.dex_insn.specs.Raw as raw
use Rattle.tables_names.specs.Closure.{NameRanks, nothing}
use Rattle.code_write.proofs.LowerLaws.{array-lowers, put-array}
use Rattle.code_write.proofs.insns.put_array.Goals as goal

pub put_insn-requires : goal.put_insn-requires
unfolding raw.raw
put_insn-requires c = (array-lowers (NameRanks nothing) c.args.bytes.now 0 0 c.args.width c.args.bytes.now c.requires).fits

pub returns-clause-ok : goal.returns-clause-ok
unfolding raw.raw
returns-clause-ok c = on_ok_weaker c.put_insn.result (λ n starts at ranks. put-array (NameRanks ranks) starts at 0 c.args.width c.args.bytes.now _ _ c.requires n) c.put_insn.ensures.ok
