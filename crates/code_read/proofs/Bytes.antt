-- Parts of bytes are bytes.
use Rattle.std.proofs.Common.{ℕ, suc, ◌<◌, List, [], ◌∷◌}
use Rattle.std.specs.List.{AllByRecursion}
use Rattle.dex_base.specs.Fields.{AreBytes}

-- one by one
pub all-bytes : (bytes : List ℕ) → AreBytes bytes → AllByRecursion (λ byte. byte < 256) bytes
all-bytes [] are = tt
all-bytes (x ∷ xs) are = (are 0, all-bytes xs (λ j. are (suc j)))
