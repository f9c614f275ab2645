-- Which registers an instruction names: the operands v of its format's syntax ("Dalvik Executable instruction formats",
-- "The formats"). The second half of a wide pair isn't named.
use Rattle.std.specs.Prelude.{ℕ, List, [], ◌∷◌, take}
use Rattle.std.specs.List.{range_with_len}
use Rattle.dex_insn.specs.Raw.{Raw, I12x, I11n, I11x, I22x, I21t, I21s, I21h, I21c, I23x, I22b, I22t, I22s, I22c, I32x, I31i, I31t, I31c, I35c, I3rc, I51l}

-- the registers, format by format: of 35c the first n of the five, of 3rc n from the first on; other formats and payloads name none
unfoldable pub named_registers : Raw → List ℕ
named_registers (I12x op a b) = a ∷ b ∷ []
named_registers (I11n op a b) = a ∷ []
named_registers (I11x op a) = a ∷ []
named_registers (I22x op a b) = a ∷ b ∷ []
named_registers (I21t op a offset) = a ∷ []
named_registers (I21s op a b) = a ∷ []
named_registers (I21h op a b) = a ∷ []
named_registers (I21c op a index) = a ∷ []
named_registers (I23x op a b c) = a ∷ b ∷ c ∷ []
named_registers (I22b op a b c) = a ∷ b ∷ []
named_registers (I22t op a b offset) = a ∷ b ∷ []
named_registers (I22s op a b c) = a ∷ b ∷ []
named_registers (I22c op a b index) = a ∷ b ∷ []
named_registers (I32x op a b) = a ∷ b ∷ []
named_registers (I31i op a b) = a ∷ []
named_registers (I31t op a offset) = a ∷ []
named_registers (I31c op a index) = a ∷ []
named_registers (I35c op n regs index) = take n regs
named_registers (I3rc op n first index) = range_with_len first n
named_registers (I51l op a b) = a ∷ []
named_registers _ = []
