-- Words that spelled names, as they are kept.
-- Page: docs/LISTING.md, "What a word can be".
use Rattle.std.specs.Prelude.{Bool, List, Option, IfSome, IsTrue}
use Rattle.std.specs.List.{All}
use Rattle.listing_words.specs.Words.{plain_word}
use Rattle.listing_slots.specs.Slots.{SpellsSlot}
use Rattle.listing_slots.specs.inner.ValidNames.{IsValidDatum}
use Rattle.listing_slots.specs.inner.View.{datum}
use Rattle.listing_slots.specs.declared.spelled.Spelling.{Spelling}

-- The word in a bucket has its name as its value in its slot.
abbrev pub IsSpelled : Option Spelling → Type 0
IsSpelled bucket = IfSome bucket (λ s. SpellsSlot s.slot (plain_word s.text.now) (datum s.name))

-- A file can have the name of the word in a bucket.
abbrev pub IsValid : Option Spelling → Type 0
IsValid bucket = IfSome bucket (λ s. IsValidDatum (datum s.name))

-- Each word in a bucket has its name as its value in its slot, and if all names are valid a file can have it.
pub record AreSpelled (valid : Bool) (buckets : List (Option Spelling)) : Type 0 where
  pub spelled : All IsSpelled buckets
  pub valid_names : IsTrue valid → All IsValid buckets
