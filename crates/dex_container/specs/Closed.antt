-- A file whose signature and checksum are filled in (Dalvik Executable format, "header_item").
use Rattle.std.specs.Prelude.{◌≡◌, ℕ, List, take, drop}
use Rattle.dex_container.specs.Frame.{SumsHold}

-- The checksum and the signature hold, and no other byte has changed.
pub record SetsSums (old new : List ℕ) : Type 0 where
  pub sums : SumsHold new
  pub front : take 8 new ≡ take 8 old
  pub back : drop 32 new ≡ drop 32 old
