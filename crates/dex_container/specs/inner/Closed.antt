-- Beside Closed.antt: what no promise reaches.
use Rattle.std.specs.Prelude.{ℕ, ◌++◌, List, drop}
use Rattle.sha1.specs.Sha1.{sha1}

-- the bytes from 12 on: the signature of all after it, and these
unfoldable pub with_signature : List ℕ → List ℕ
with_signature b = sha1 (drop 32 b) ++ drop 32 b
