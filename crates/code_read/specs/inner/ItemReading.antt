-- The fixed parts, tries and handlers: what the contracts of private functions cite.
use Rattle.std.specs.Prelude.{ℕ, ◌≡◌, ◌<◌, ◌++◌, ◌+◌, List, length, drop, map, Some, None, slice_get}
use Rattle.program_types.specs.Content.{Name, Try}
use Rattle.code_read.specs.Places.{position, count_below}
use Rattle.code_read.specs.Item.{try_start, try_count, try_handler, registers_of, ins_of, outs_of, tries_of, insns_size, insns_bytes, items_of, tries_begin, list_begin, HasFixedParts}
use Rattle.code_read.specs.Tries.{SpellsTries, handler_of}
use Rattle.program_types.specs.Formed.{try_at}
use Rattle.code_read.specs.Handlers.{Handler, SpellsList}
use Rattle.code_read.specs.declared.item.Item.{Item}

-- These are the fixed parts of the item at the front of the bytes.
pub record IsCodeItem (bytes : List ℕ) (i : Item) : Type 0 where
  pub whole : HasFixedParts bytes
  pub registers : i.registers ≡ registers_of bytes
  pub ins : i.ins ≡ ins_of bytes
  pub outs : i.outs ≡ outs_of bytes
  pub tries : i.tries ≡ tries_of bytes
  pub size : i.size ≡ insns_size bytes
  pub units : i.units.now ≡ insns_bytes bytes
  pub items : i.items.now ≡ items_of bytes
  pub list : i.list.now ≡ drop (list_begin bytes) bytes
  pub place : i.items_at ≡ tries_begin bytes

-- The try_items, and handlers at the front of the bytes, spell these tries.
pub record ReadTries (N : ℕ → Name → Type 0) (ss : List ℕ) (size n : ℕ) (items rest : List ℕ) (ts : List Try) : Type 0 where
  pub list : List ℕ
  pub after : List ℕ
  pub joined : rest ≡ list ++ after
  pub tries : SpellsTries N ss size n items list ts

-- The bytes begin with a list of these handlers, at these offsets.
pub record ReadList (N : ℕ → Name → Type 0) (ss rest offsets : List ℕ) (hs : List Handler) : Type 0 where
  pub list : List ℕ
  pub after : List ℕ
  pub joined : rest ≡ list ++ after
  pub placed : List (ℕ × Handler)
  pub spelled : SpellsList N ss list placed
  pub offsets_are : offsets ≡ map (λ p. p.0) placed
  pub handlers_are : hs ≡ map (λ p. p.1) placed

-- Try_item i spells the try, by the handlers and the offsets at which they begin.
pub record TakesTry (ss items offsets : List ℕ) (hs : List Handler) (i : ℕ) (t : Try) : Type 0 where
  pub from : position ss (try_start items i) ≡ Some t.from
  pub to : t.to ≡ count_below (try_start items i + try_count items i) ss
  pub number : ℕ
  pub at : position offsets (try_handler items i) ≡ Some number
  pub handler : slice_get hs number ≡ Some (handler_of t)

-- The n try_items spell the tries.
pub record TakesTries (ss items offsets : List ℕ) (hs : List Handler) (n : ℕ) (ts : List Try) : Type 0 where
  pub count : length ts ≡ n
  pub each : (i : ℕ) → i < n → TakesTry ss items offsets hs i (try_at ts i)

-- At the offset of some try_item no handler begins.
abbrev pub NoHandler : List ℕ → List ℕ → ℕ → Type 0
NoHandler items offsets n = (i : ℕ) × (i < n) × (position offsets (try_handler items i) ≡ None)
