-- Handlers and tries: what the contracts of private functions cite.
use Rattle.std.specs.Prelude.{ℕ, ◌≡◌, ◌+◌, ◌-◌, ◌<◌, ◌⊎◌, List, drop, set, length, slice_index, slice_get, Some}
use Rattle.std.specs.List.{AllByRecursion}
use Rattle.dex_base.specs.Grammar.{Takes}
use Rattle.program_types.specs.Content.{Try}
use Rattle.program_types.specs.Formed.{try_at}
use Rattle.tables_names.specs.Closure.{NameRanks}
use Rattle.tables_rows.specs.Stands.{NameStands}
use Rattle.file_renumber.specs.inner.Marked.{Columns, Marked, AddsNames}
use Rattle.code_read.specs.Places.{position, count_below}
use Rattle.code_read.specs.Handlers.{Handler}
use Rattle.code_read.specs.inner.Handlers.{SpellsHandler}
use Rattle.code_read.specs.Item.{try_start, try_count}
use Rattle.code_read.specs.inner.ItemReading.{ReadTries}
use Rattle.code_read.specs.declared.item.Item.{Item}
use Rattle.code_write.specs.inner.Packs.{PacksHandler}
use Rattle.code_write.specs.inner.Writing.{IsHeldAs}
use Rattle.file_renumber.specs.inner.Fronts.{AreListed, types_of}
use Rattle.file_renumber.specs.declared.handlers.Handlers.{Handlers}
use Rattle.file_renumber.specs.inner.CarriedCodes.{CarriedHandler, CarriedTries}

-- The try_items of the item, and handlers at the front of its list, spell tries of the file.
pub record HasTries (b : List ℕ) (i : Item) : Type 0 where
  pub starts : List ℕ
  pub tries : List Try
  pub read : ReadTries (NameStands b) starts i.size i.tries i.items.now i.list.now tries

-- The item has tries, and these are the handlers of its list.
pub record ListedTries (b : List ℕ) (i : Item) (list : Handlers) : Type 0 where
  pub all : HasTries b i
  pub listed : AreListed all.read.tries.handlers list.offsets.items list.catches.items

-- Either the handler at this offset was seen before, or it is now and the types that it catches are marked.
abbrev pub MarksOnce : List ℕ → List ℕ → ℕ → Marked → Marked → List ℕ → List ℕ → ℕ → Type 0
MarksOnce b bytes offset old new seen more k =
    ((more ≡ set seen k 1) × ((ss : List ℕ) (h : Handler) (rest : List ℕ) → Takes (SpellsHandler (NameStands b) ss) (drop offset bytes) h rest → AddsNames b old new (types_of h.catches)))
    ⊎ ((0 < slice_index seen k) × (more ≡ seen) × (new ≡ old))

-- The item has tries that are carried by these numbers, and the handlers of its list begin at these offsets.
pub record CarriedList (numbers : Columns) (i : Item) (offsets : List ℕ) : Type 0 where
  pub all : CarriedTries numbers i
  pub catches : List ℕ
  pub listed : AreListed all.read.tries.handlers offsets catches

-- The byte string is what is written of the handler at the front of the bytes.
pub record IsWrittenOf (numbers : Columns) (bytes key : List ℕ) : Type 0 where
  pub small : AllByRecursion (λ byte. byte < 256) key
  pub packs : (x : CarriedHandler numbers bytes) → PacksHandler (NameRanks x.names) x.starts key x.handler

-- What is written of the handler at the front of the bytes is number n of the byte strings that are held after the
-- call.
pub record GetsNumber (numbers : Columns) (bytes : List ℕ) (old new : List (List ℕ)) (n : ℕ) : Type 0 where
  pub key : List ℕ
  pub numbered : IsHeldAs old new key n
  pub written : IsWrittenOf numbers bytes key

-- Where the entry of a handler isn't 0, what is written of it is held, with the number before. The handlers of the list
-- begin at these offsets.
abbrev pub AreKnown : Columns → List ℕ → List ℕ → List ℕ → List (List ℕ) → Type 0
AreKnown numbers bytes offsets known keys =
    (k : ℕ) → 0 < slice_index known k
    → (key : List ℕ) × (slice_get keys (slice_index known k - 1) ≡ Some key) × IsWrittenOf numbers (drop (slice_index offsets k) bytes) key

-- Try_item i begins at the try's first instruction and covers it as far as its last one.
pub record CoversTry (ss items : List ℕ) (i : ℕ) (t : Try) : Type 0 where
  pub from : position ss (try_start items i) ≡ Some t.from
  pub to : t.to ≡ count_below (try_start items i + try_count items i) ss

-- The n try_items begin at the first instructions of these tries and cover them as far as their last ones.
pub record CoverTries (ss items : List ℕ) (n : ℕ) (ts : List Try) : Type 0 where
  pub count : length ts ≡ n
  pub each : (i : ℕ) → i < n → CoversTry ss items i (try_at ts i)
