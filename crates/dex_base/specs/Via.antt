-- A grammar through a relation: bytes encode a number or a pair, which denotes the value.
use Rattle.std.specs.Prelude.{ℕ, List}

-- What the bytes encode by G denotes the value by R.
pub record Via {U V : Type 0} (G : List ℕ → U → Type 0) (R : U → V → Type 0) (bytes : List ℕ) (v : V) : Type 0 where
  pub raw : U
  pub spelled : G bytes raw
  pub means : R raw v
