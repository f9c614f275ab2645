-- Beside Walk.antt: what no promise reaches.
use Rattle.std.specs.Prelude.{ℕ, ◌≡◌, ◌≤◌, List, length}
use Rattle.dex_insn.specs.Raw.{Raw}
use Rattle.code_read.specs.Places.{Rises}
use Rattle.code_read.specs.Walk.{starts}

-- the table of the instructions' addresses
pub record IsTable (begins : List ℕ) (rs : List Raw) : Type 0 where
  pub is : begins ≡ starts rs
  pub rises : Rises begins
  pub few : length begins ≤ 4294967295
  pub count : length begins ≡ length rs
