-- Facts of the opcode table.
use Rattle.std.proofs.Common.{◌≡◌, ℕ, ◌<◌, ◌≤◌, Some, None, ⊎_elim}
use Rattle.std.proofs.lemmas.Bool.{cases_lt}
use Rattle.std.proofs.lemmas.List.{get_or_past}
use Rattle.dex_insn.specs.Opcodes.{format_of, formats}
use Rattle.dex_insn.specs.declared.opcode.Format.{Format}

past : (op : ℕ) → 256 ≤ op → format_of op ≡ None
unfolding formats
past op h = get_or_past formats op None h

-- an opcode that is used is a byte
pub op_fits : (op : ℕ) (f : Format) → format_of op ≡ Some f → op < 256
op_fits op f h =
    ⊎_elim (λ (p : op < 256). p) (λ (p : 256 ≤ op). let e = past op p in cc) (cases_lt op 256)
