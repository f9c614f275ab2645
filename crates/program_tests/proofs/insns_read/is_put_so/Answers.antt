use Rattle.program_tests.proofs.insns_read.is_put_so.Goals as goal

pub put_insn-requires : goal.put_insn-requires
put_insn-requires c = c.what_stands_can_be_written.ensures _ _ _ c.are_bytes.ensures.each c.in_ok-insn.ensures.ok
