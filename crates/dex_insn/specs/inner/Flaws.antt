-- The number of the fault for each flaw.
use Rattle.std.specs.Prelude.{ℕ}
use Rattle.dex_insn.specs.declared.flaw.Flaw.{Flaw}
use Rattle.dex_insn.specs.declared.flaw.Flaw.TheVariants.{Missing, Opcode, Cut, NonZero, RegisterCount, OddPayload, CutHead, Width, CutPayload, KeyOrder}

-- the number of the fault
abbrev pub code_of : Flaw → ℕ
code_of Missing = 63
code_of Opcode = 62
code_of Cut = 63
code_of NonZero = 64
code_of RegisterCount = 66
code_of OddPayload = 67
code_of CutHead = 63
code_of Width = 67
code_of CutPayload = 63
code_of KeyOrder = 67
