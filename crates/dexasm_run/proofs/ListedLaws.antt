-- What is read as a listing lists the program, and what lists it is read so.
use Rattle.std.proofs.Common.{List, ℕ}
use Rattle.dexasm_run.specs.Answers.{Lists}
use Rattle.listing_parse.proofs.ListingLaws.{listing_read, listing_goes}
use Rattle.listing_parse.specs.Text.{IsListing}
use Rattle.program_types.specs.Content.{Program}

pub lists : (given : List ℕ) (p : Program) → IsListing given p → Lists given p
lists given p h = let both = listing_read given p h in record { text = both.0; formed = both.1 }

pub is_read : (given : List ℕ) (p : Program) → Lists given p → IsListing given p
is_read given p h = listing_goes given p (h.text, h.formed)
