-- Whether a file can have the names that are read.
-- Page: docs/LISTING.md, "What a word can be"; "Dalvik Executable format", "String syntax".
use Rattle.std.specs.Prelude.{ℕ, Bool, ⊤, List, IsTrue}
use Rattle.std.specs.List.{AllByRecursion}
use Rattle.program_rules.specs.Valid.{IsValidField, IsValidName}
use Rattle.listing_slots.specs.Data.{Datum, named, constant}

-- A file can have what the word names, if it names something.
abbrev pub IsValidDatum : Datum → Type 0
IsValidDatum (named n) = IsValidName n
IsValidDatum (constant f) = IsValidField f
IsValidDatum _ = ⊤

-- What is known of words that spelled names: how many can be held, and whether a file can have all names that were read.
pub record Spellings : Type 0 where
  pub buckets : ℕ
  pub valid : Bool

-- If a file can have all names now, it can have those from before and what these words name.
abbrev pub StayValid : Spellings → Spellings → List Datum → Type 0
StayValid old new ds = IsTrue new.valid → IsTrue old.valid × AllByRecursion IsValidDatum ds

-- If a file can have all names now, it can have those from before.
abbrev pub StayWhole : Spellings → Spellings → Type 0
StayWhole old new = IsTrue new.valid → IsTrue old.valid
