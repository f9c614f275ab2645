-- What a call does to the files.
use Rattle.std.specs.Prelude.{ℕ}

-- the mode of a file that only its owner may read or write: 0600
abbrev pub private_mode : ℕ
private_mode = 384
