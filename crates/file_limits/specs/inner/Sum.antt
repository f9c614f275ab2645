-- Sums that are exact as long as they are within the limit of a file.
-- Page: "Dalvik Executable format", "header_item": file_size is a number of four bytes.
use Rattle.std.specs.Prelude.{◌≡◌, ℕ, ◌<◌, ◌⊎◌}

-- r is the sum n, or both are above 4294967295
abbrev pub IsSum : ℕ → ℕ → Type 0
IsSum r n = (r ≡ n) ⊎ ((4294967295 < r) × (4294967295 < n))
