-- The contracts of the private functions of writing.
use Rattle.std.specs.Prelude.{◌≡◌, ℕ, List}
use Rattle.dex_value.specs.Spelling.{Sized, unsigned_of}

-- The spellings of an unsigned number of a type, at most `widest` bytes after the head.
abbrev pub UnsignedAs : ℕ → ℕ → List ℕ → ℕ → Type 0
UnsignedAs type widest bytes n = Sized type widest (λ low. n ≡ unsigned_of low) bytes
