-- The table in which the opcode of a mnemonic is found.
use Rattle.std.specs.Prelude.{ℕ, ◌+◌, ◌-◌, ◌*◌, ◌/◌, ◌%◌, ◌^◌, List, length, slice_index, nat_lt, if◌then◌else◌}
use Rattle.dex_base.specs.Fields.{u32_at}
use Rattle.dex_insn.specs.declared.named.TheConstants.{SHIFTS, SLOTS}

-- a number made of a text's length, and of the first, the middle and the last four of its bytes
unfoldable pub text_sum : List ℕ → ℕ
text_sum text =
    (u32_at text 0 + 3 * u32_at text ((length text - 4) / 2) + 9 * u32_at text (length text - 4) + length text) * 0x9e3779b97f4a7c15 % 2 ^ 64

-- the one opcode that can have this mnemonic; of fewer than four bytes, nop
unfoldable pub candidate : List ℕ → ℕ
candidate text =
    if nat_lt (length text) 4
    then 0
    else slice_index SLOTS ((text_sum text / 2 ^ 32 + slice_index SHIFTS (text_sum text / 2 ^ 58)) % 256)
