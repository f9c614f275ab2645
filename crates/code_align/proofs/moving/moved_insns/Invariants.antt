use Rattle.std.proofs.Common.{◌≡◌, ◌++◌, map, drop}
use Rattle.std.specs.Prelude.{slice_index}
use Rattle.program_types.specs.View.{insn}
use Rattle.code_align.specs.Aligned.{moved_insn, with_nops}
use Rattle.code_align.proofs.moving.moved_insns.Given as goal

abbrev pub invariant-loop-k : goal.invariant-loop-k
invariant-loop-k l = map insn l.all.items ++ map (moved_insn (slice_index l.numbers)) (with_nops (drop l.k l.pads) (drop l.k (map insn l.insns))) ≡ map (moved_insn (slice_index l.numbers)) (with_nops l.pads (map insn l.insns))
