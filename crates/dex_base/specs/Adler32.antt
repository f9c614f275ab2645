-- The checksum Adler-32 (RFC 1950, section 8.2), with sums of any size.
use Rattle.std.specs.Prelude.{ℕ, ◌+◌, ◌*◌, ◌%◌, List, [], ◌∷◌, length, sum}

-- each byte as often as there are bytes from it to the end
abbrev pub weighted_sum : List ℕ → ℕ
weighted_sum [] = 0
weighted_sum (x ∷ xs) = (length xs + 1) * x + weighted_sum xs

-- the checksum of these bytes: the sum of the running sums, then the sum
unfoldable pub adler32 : List ℕ → ℕ
adler32 xs = (length xs + weighted_sum xs) % 65521 * 65536 + (1 + sum xs) % 65521
