-- Which bytes encode a code item's handlers.
-- Page: "Dalvik Executable format", "encoded_catch_handler_list", "encoded_catch_handler" and "encoded_type_addr_pair".
use Rattle.std.specs.Prelude.{ℕ, ℤ, pos, negsuc, ◌≡◌, ◌==◌, if◌then◌else◌, List, [], ◌∷◌, ◌++◌, length, Option, Some, None, zero, suc, ⊤, unsigned_abs}
use Rattle.dex_base.specs.Grammar.{Then, Pair, Many, Placed}
use Rattle.dex_base.specs.Via.{Via}
use Rattle.dex_base.specs.Leb128.{Spells, SpellsSigned, Shortest}
use Rattle.program_types.specs.Content.{Catch, Name, OfDesc, Descriptor}
use Rattle.code_read.specs.Places.{position}

-- the catches and the handler of all other exceptions of a try
pub record Handler : Type 0 where
  pub catches : List Catch
  pub all : Option ℕ

-- how many catches follow the number
abbrev pub catches_of : ℤ → ℕ
catches_of z = unsigned_abs z

-- whether an address for all others follows them
abbrev pub HasAll : ℤ → Type 0
HasAll (pos zero) = ⊤
HasAll (pos (suc n)) = ⊥
HasAll (negsuc n) = ⊤

-- U and S are the spellings of unsigned and signed numbers, N relates an index to its name, ss are the addresses of the
-- instructions.
module _ (U : List ℕ → ℕ → Type 0) (S : List ℕ → ℤ → Type 0) (N : ℕ → Name → Type 0) (ss : List ℕ) where
  -- an instruction, by its address
  abbrev pub AddressBy : List ℕ → ℕ → Type 0
  AddressBy = Via U (λ address n. position ss address ≡ Some n)

  -- a type, by its index
  abbrev pub TypeBy : List ℕ → Descriptor → Type 0
  TypeBy = Via U (λ i ty. N i (OfDesc ty))

  -- a type and an instruction
  abbrev pub CatchBy : List ℕ → Catch → Type 0
  CatchBy bytes c = Pair TypeBy AddressBy bytes (c.ty, c.at)

  -- the instruction for all others, if there is one by the number
  abbrev pub AllBy : ℤ → List ℕ → Option ℕ → Type 0
  AllBy z bytes None = (¬ HasAll z) × (bytes ≡ [])
  AllBy z bytes (Some n) = HasAll z × AddressBy bytes n

  -- as many catches as the number has, and the handler of all others
  abbrev pub PartsBy : ℤ → List ℕ → List Catch × Option ℕ → Type 0
  PartsBy z = Pair (Many CatchBy (catches_of z)) (AllBy z)

  -- a number, and so many catches
  abbrev pub HandlerBy : List ℕ → Handler → Type 0
  HandlerBy = Via (Then S PartsBy) (λ p h. p.1 ≡ (h.catches, h.all))

  -- a count, and so many handlers, each with its offset from the list's begin
  pub record ListBy (bytes : List ℕ) (hs : List (ℕ × Handler)) : Type 0 where
    pub front : List ℕ
    pub back : List ℕ
    pub joined : bytes ≡ front ++ back
    pub count : U front (length hs)
    pub each : Placed HandlerBy (length front) back hs

-- The list of handlers, each with its offset.
abbrev pub SpellsList : (ℕ → Name → Type 0) → List ℕ → List ℕ → List (ℕ × Handler) → Type 0
SpellsList = ListBy Spells SpellsSigned

-- the shortest are written
abbrev pub PacksList : (ℕ → Name → Type 0) → List ℕ → List ℕ → List (ℕ × Handler) → Type 0
PacksList = ListBy (Shortest Spells) (Shortest SpellsSigned)

-- the list is there only if there are tries
abbrev pub SpellsHandlers : (ℕ → Name → Type 0) → List ℕ → ℕ → List ℕ → List (ℕ × Handler) → Type 0
SpellsHandlers N ss zero bytes hs = (bytes ≡ []) × (hs ≡ [])
SpellsHandlers N ss (suc n) bytes hs = SpellsList N ss bytes hs

-- the list that is written, each number in the fewest bytes, is there only if there are tries
abbrev pub PacksHandlers : (ℕ → Name → Type 0) → List ℕ → ℕ → List ℕ → List (ℕ × Handler) → Type 0
PacksHandlers N ss zero bytes hs = (bytes ≡ []) × (hs ≡ [])
PacksHandlers N ss (suc n) bytes hs = PacksList N ss bytes hs

-- the handler that begins at an offset (handler_off)
unfoldable pub handler_at : List (ℕ × Handler) → ℕ → Option Handler
handler_at [] off = None
handler_at (p ∷ ps) off = if p.0 == off then Some p.1 else handler_at ps off
