-- The fixed parts of a code_item, as fields of the bytes from its first one on. The bytes after the item are ignored.
-- Page: "Dalvik Executable format", "code_item" and "try_item".
use Rattle.std.specs.Prelude.{ℕ, ◌+◌, ◌*◌, ◌%◌, ◌≤◌, List, length, slice_range, ◌==◌, if◌then◌else◌}
use Rattle.dex_base.specs.Fields.{u16_at, u32_at}

-- registers_size
abbrev pub registers_of : List ℕ → ℕ
registers_of bytes = u16_at bytes 0

-- ins_size
abbrev pub ins_of : List ℕ → ℕ
ins_of bytes = u16_at bytes 2

-- outs_size
abbrev pub outs_of : List ℕ → ℕ
outs_of bytes = u16_at bytes 4

-- tries_size
abbrev pub tries_of : List ℕ → ℕ
tries_of bytes = u16_at bytes 6

-- insns_size, in units
abbrev pub insns_size : List ℕ → ℕ
insns_size bytes = u32_at bytes 12

-- where the insns end
abbrev pub units_end : List ℕ → ℕ
units_end bytes = 16 + 2 * insns_size bytes

-- where the try_items begin: after a padding unit after an odd number of units, if there are tries
unfoldable pub tries_begin : List ℕ → ℕ
tries_begin bytes = units_end bytes + (if tries_of bytes == 0 then 0 else 2 * (insns_size bytes % 2))

-- where they end, and the encoded_catch_handler_list begins
abbrev pub list_begin : List ℕ → ℕ
list_begin bytes = tries_begin bytes + 8 * tries_of bytes

-- the bytes of the insns
abbrev pub insns_bytes : List ℕ → List ℕ
insns_bytes bytes = slice_range bytes 16 (units_end bytes)

-- the bytes of the try_items
abbrev pub items_of : List ℕ → List ℕ
items_of bytes = slice_range bytes (tries_begin bytes) (list_begin bytes)

-- All as far as the try_items' end is there.
pub record HasFixedParts (bytes : List ℕ) : Type 0 where
  pub head : 16 ≤ length bytes
  pub fixed : list_begin bytes ≤ length bytes

-- start_addr of try_item i
abbrev pub try_start : List ℕ → ℕ → ℕ
try_start items i = u32_at items (8 * i)

-- its insn_count
abbrev pub try_count : List ℕ → ℕ → ℕ
try_count items i = u16_at items (8 * i + 4)

-- its handler_off
abbrev pub try_handler : List ℕ → ℕ → ℕ
try_handler items i = u16_at items (8 * i + 6)
