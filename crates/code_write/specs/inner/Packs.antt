-- Beside Packs.antt: what no promise reaches.
use Rattle.std.specs.Prelude.{ℕ, ◌≡◌, ◌+◌, ◌++◌, List, Some}
use Rattle.dex_base.specs.Via.{Via}
use Rattle.dex_base.specs.Leb128.{Spells, SpellsSigned, Shortest}
use Rattle.dex_insn.specs.Raw.{Raw}
use Rattle.program_types.specs.Content.{Name, Catch, Insn}
use Rattle.code_read.specs.Places.{position}
use Rattle.code_read.specs.Handlers.{Handler, CatchBy, HandlerBy}
use Rattle.code_write.specs.Packs.{AreLowered, joined}

-- What is written of the instructions is appended.
pub record PutInsns (N : ℕ → Name → Type 0) (is : List Insn) (ss old new : List ℕ) : Type 0 where
  pub raws : List Raw
  pub lowered : AreLowered N is ss raws
  pub is_new : new ≡ old ++ joined raws

-- an instruction, by its address
abbrev pub AddressAt : List ℕ → List ℕ → ℕ → Type 0
AddressAt ss = Via (Shortest Spells) (λ address n. position ss address ≡ Some n)

-- A type and where its handler begins.
abbrev pub PacksCatch : (ℕ → Name → Type 0) → List ℕ → List ℕ → Catch → Type 0
PacksCatch = CatchBy (Shortest Spells) (Shortest SpellsSigned)

-- A handler: the count, then its parts.
abbrev pub PacksHandler : (ℕ → Name → Type 0) → List ℕ → List ℕ → Handler → Type 0
PacksHandler = HandlerBy (Shortest Spells) (Shortest SpellsSigned)
