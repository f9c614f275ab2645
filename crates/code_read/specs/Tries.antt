-- Which try_items and handlers encode which tries.
-- Page: "Dalvik Executable format", "code_item": tries, and "try_item".
use Rattle.std.specs.Prelude.{ℕ, ◌≡◌, ◌+◌, ◌<◌, ◌≤◌, List, length, Some}
use Rattle.program_types.specs.Content.{Name, Try}
use Rattle.program_types.specs.Formed.{try_at}
use Rattle.code_read.specs.Places.{position, count_below}
use Rattle.code_rules.specs.First.{AllHold}
use Rattle.code_read.specs.Item.{try_start, try_count, try_handler}
use Rattle.code_read.specs.Handlers.{Handler, SpellsHandlers, handler_at}

-- Try_item i keeps the rules: it begins at an instruction, covers some units, all of them there, and begins at or after the end of
-- the one before. ss are the addresses of the instructions, `size` is their number of units.
pub record TryHolds (ss : List ℕ) (size : ℕ) (items : List ℕ) (i : ℕ) : Type 0 where
  pub begins : (n : ℕ) × (position ss (try_start items i) ≡ Some n)
  pub some : 0 < try_count items i
  pub within : try_start items i + try_count items i ≤ size
  pub after : (j : ℕ) → j + 1 ≡ i → try_start items j + try_count items j ≤ try_start items i

-- what a try's exceptions go to
abbrev pub handler_of : Try → Handler
handler_of t = record { catches = t.catches; all = t.catch_all }

-- Try_item i encodes the try: it covers the instructions whose addresses are in its range, and its handler is the one at handler_off.
pub record SpellsTry (ss : List ℕ) (items : List ℕ) (hs : List (ℕ × Handler)) (i : ℕ) (t : Try) : Type 0 where
  pub from : position ss (try_start items i) ≡ Some t.from
  pub to : t.to ≡ count_below (try_start items i + try_count items i) ss
  pub handler : handler_at hs (try_handler items i) ≡ Some (handler_of t)

-- The n try_items and the handlers encode the tries.
pub record SpellsTries (N : ℕ → Name → Type 0) (ss : List ℕ) (size n : ℕ) (items list : List ℕ) (ts : List Try) : Type 0 where
  pub count : length ts ≡ n
  pub hold : AllHold (TryHolds ss size items) n
  pub handlers : List (ℕ × Handler)
  pub spelled : SpellsHandlers N ss n list handlers
  pub each : (i : ℕ) → i < n → SpellsTry ss items handlers i (try_at ts i)
