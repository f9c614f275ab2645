-- Which name a text denotes: as in a listing, in ASCII.
-- Page: docs/LISTING.md, "What a word can be".
use Rattle.std.specs.Prelude.{ℕ, List}
use Rattle.std.specs.Str.{IsAscii}
use Rattle.dex_base.specs.Descriptor.{IsDescriptor}
use Rattle.program_types.specs.Content.{Units, Descriptor, Proto, FieldRef, MethodRef}
use Rattle.listing_words.specs.Names.{SpellsUnits, IsProtoText, IsFieldText, IsMethodText}

-- The text is ASCII and denotes these units: `\uXXXX` one unit, any other character itself.
abbrev pub SpellsInAscii : List ℕ → Units → Type 0
SpellsInAscii written units = IsAscii written × SpellsUnits written units

-- The text is the descriptor of a type.
abbrev pub SpellsType : List ℕ → Descriptor → Type 0
SpellsType written d = SpellsInAscii written d × IsDescriptor d

-- The text denotes a prototype: `(P..)R`
abbrev pub SpellsProto : List ℕ → Proto → Type 0
SpellsProto written p = (units : Units) × SpellsInAscii written units × IsProtoText units p

-- The text denotes a field: `C->n:T`
abbrev pub SpellsField : List ℕ → FieldRef → Type 0
SpellsField written f = (units : Units) × SpellsInAscii written units × IsFieldText units f

-- The text denotes a method: `C->n(P..)R`
abbrev pub SpellsMethod : List ℕ → MethodRef → Type 0
SpellsMethod written m = (units : Units) × SpellsInAscii written units × IsMethodText units m
