-- Numbers and bit fields in a list of bytes that is read as 16-bit units, the low byte first.
use Rattle.std.specs.Prelude.{ℕ, ◌+◌, ◌-◌, ◌*◌, ◌/◌, ◌%◌, ◌^◌, ◌<◌, List, drop, ℤ, pos, ◌-ℤ◌, ◌<ℤ◌, nat_lt, if◌then◌else◌}
use Rattle.byteorder.specs.Endian.{little_number}

-- the number in the n units from unit k on, the low unit first
unfoldable pub number : List ℕ → ℕ → ℕ → ℕ
number bytes k n = little_number (2 * n) (drop (2 * k) bytes)

-- the `width` bits of unit k from bit `low` on
abbrev pub field : List ℕ → ℕ → ℕ → ℕ → ℕ
field bytes k low width = number bytes k 1 / 2 ^ low % 2 ^ width

-- a number of `width` bits as two's complement
abbrev pub signed : ℕ → ℕ → ℤ
signed width n = if nat_lt n (2 ^ (width - 1)) then pos n else pos n -ℤ pos (2 ^ width)

-- the i-th of the 32-bit signed numbers in the bytes
abbrev pub int_at : List ℕ → ℕ → ℤ
int_at bytes i = signed 32 (number bytes (2 * i) 2)

-- the first n 32-bit signed numbers rise strictly
abbrev pub SwitchKeysRise : List ℕ → ℕ → Type 0
SwitchKeysRise bytes n = (i : ℕ) → i + 1 < n → int_at bytes i <ℤ int_at bytes (i + 1)
