-- What the bytes of an item feed a hasher: how many they are, the bytes eight at a time, and those that are left.
use Rattle.std.specs.Prelude.{◌≡◌, ℕ, suc, zero, ◌*◌, ◌/◌, List, [], ◌++◌, length, drop, IsTrue, nat_eq}
use Rattle.std.specs.List.{flat_map}
use Rattle.std.specs.Hash as fed
use Rattle.std.specs.Cmp.Lexicographic.{pointwise, same_text}
use Rattle.std.proofs.Common.{sym, ap}
use Rattle.byteorder.specs.Endian.{little_number}
use Rattle.file_layout.specs.declared.item.Item.{Item}

-- the eight bytes from a place on as one number
abbrev pub long_at : List ℕ → ℕ → ℕ
long_at bytes at = little_number 8 (drop at bytes)

-- so many of these numbers
abbrev pub longs : List ℕ → ℕ → List (List ℕ)
longs bytes zero = []
longs bytes (suc k) = longs bytes k ++ fed.u64 (long_at bytes (8 * k))

-- all that bytes feed
abbrev pub bytes_input : List ℕ → List (List ℕ)
bytes_input bytes = fed.usize (length bytes) ++ longs bytes (length bytes / 8) ++ flat_map fed.u8 (drop (length bytes / 8 * 8) bytes)

-- all that an item feeds
abbrev pub item_input : Item → List (List ℕ)
item_input one = bytes_input one.bytes.items

-- equal items feed the same
pub item_respects : (x y : Item) → IsTrue (pointwise nat_eq x.bytes.items y.bytes.items) → item_input x ≡ item_input y
item_respects x y same = ap bytes_input (same_text x.bytes.items y.bytes.items (sym same))
