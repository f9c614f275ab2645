-- Items of a file that are written again in another: an item at one offset is written once.
-- Page: "Dalvik Executable format": items that several rows refer to.
use Rattle.std.specs.Prelude.{◌≡◌, ℕ, ◌<◌, Bool, List, [], length, MatchBool}
use Rattle.std.specs.HashMap.{HashMap}
use Rattle.file_layout.specs.inner.Sections.{is_empty_list}
use Rattle.file_layout.specs.inner.OneMore.{Entry, HasItemAt}
use Rattle.tables_rows.specs.inner.Cached.{AreCached}

-- These bytes are the item of v: none where v takes none.
abbrev pub IsItem : {V : Type 0} → (V → Bool) → (List ℕ → V → Type 0) → List ℕ → V → Type 0
IsItem none K bytes v = MatchBool (none v) (bytes ≡ []) ((0 < length bytes) × K bytes v)

-- The item of these bytes stands at this place; where there is no byte the place is 0.
abbrev pub IsPlaced : List Entry → List ℕ → ℕ → Type 0
IsPlaced kept bytes place = MatchBool (is_empty_list bytes) (place ≡ 0) (HasItemAt kept bytes place)

-- W says what is written for what stands at an offset. Each place that is kept by an offset is that of an item that is
-- written for it.
abbrev pub AreMoved : {S : Type 0} → (ℕ → List ℕ → Type 0) → List Entry → HashMap ℕ ℕ S → Type 0
AreMoved W kept places = AreCached (λ off place. (bytes : List ℕ) × W off bytes × IsPlaced kept bytes place) places
