-- Beside Handlers.antt: what no promise reaches.
use Rattle.std.specs.Prelude.{ℕ, List}
use Rattle.dex_base.specs.Leb128.{Spells, SpellsSigned}
use Rattle.program_types.specs.Content.{Catch, Name, Descriptor}
use Rattle.code_read.specs.Handlers.{AddressBy, CatchBy, Handler, HandlerBy, TypeBy}

-- all spellings of numbers are read
abbrev pub SpellsAddress : (ℕ → Name → Type 0) → List ℕ → List ℕ → ℕ → Type 0
SpellsAddress = AddressBy Spells SpellsSigned

-- The type that a catch names.
abbrev pub SpellsCatchType : (ℕ → Name → Type 0) → List ℕ → List ℕ → Descriptor → Type 0
SpellsCatchType = TypeBy Spells SpellsSigned

-- A type and where its handler begins.
abbrev pub SpellsCatch : (ℕ → Name → Type 0) → List ℕ → List ℕ → Catch → Type 0
SpellsCatch = CatchBy Spells SpellsSigned

-- A handler: the count, then its parts.
abbrev pub SpellsHandler : (ℕ → Name → Type 0) → List ℕ → List ℕ → Handler → Type 0
SpellsHandler = HandlerBy Spells SpellsSigned
