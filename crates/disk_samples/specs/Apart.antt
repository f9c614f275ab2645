-- A file beside another stands at a place of its own.
use Rattle.std.proofs.Common.{◌≢◌, ℕ, ◌++◌, length, ap, arith, length-append}
use Rattle.std.specs.Prelude.{codes, decimal}
use Rattle.dexasm_world.specs.State.{Path}
use Rattle.dexasm_world.specs.Safe.{part_path}

-- the path of a file beside another is another path
pub parts_apart : (path : Path) (n : ℕ) → part_path path n ≢ path
parts_apart path n is = omega (
  arith,
  ap length is,
  length-append (path ++ codes "." ++ decimal n) (codes ".part"),
  length-append (path ++ codes ".") (decimal n),
  length-append path (codes "."),
)
