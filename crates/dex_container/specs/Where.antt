-- The places of items of the data section (Dalvik Executable format, "map_list" and the items' own sections).
use Rattle.std.specs.Prelude.{◌≡◌, ℕ, ◌+◌, ◌-◌, ◌%◌, ◌<◌, ◌≤◌, ◌==◌, List, [], length, take, drop, MatchBool}
use Rattle.dex_container.specs.Frame.{IsSection}
use Rattle.dex_container.specs.declared.section.Section.{Section}

-- so many bytes at a place
unfoldable pub slice : List ℕ → ℕ → ℕ → List ℕ
slice b place size = take size (drop place b)

-- The byte at this place lies in the section of the kind.
pub record IsInSection (b : List ℕ) (kind place : ℕ) : Type 0 where
  pub begin : ℕ
  pub end : ℕ
  pub section : IsSection b kind begin end
  pub after : begin ≤ place
  pub before : place < end

-- These bytes are what the section of the kind, which goes to `end`, has from this place on.
pub record IsSectionRest (kind : ℕ) (b : List ℕ) (place end : ℕ) (bytes : List ℕ) : Type 0 where
  pub begin : ℕ
  pub section : IsSection b kind begin end
  pub after : begin ≤ place
  pub before : place < end
  pub same : bytes ≡ take (end - place) (drop place b)

-- A slice that begins at this place lies wholly within the section of the kind, is aligned, and encodes the value.
pub record At {V : Type 0} (G : List ℕ → V → Type 0) (b : List ℕ) (kind align place : ℕ) (v : V) : Type 0 where
  pub begin : ℕ
  pub end : ℕ
  pub section : IsSection b kind begin end
  pub after : begin ≤ place
  pub aligned : place % align ≡ 0
  pub size : ℕ
  pub within : place + size ≤ end
  pub spelled : G (slice b place size) v

-- The offset 0 means the empty list.
abbrev pub AtOrNone : {V : Type 0} → (List ℕ → List V → Type 0) → List ℕ → ℕ → ℕ → ℕ → List V → Type 0
AtOrNone G b kind align place vs = MatchBool (place == 0) (vs ≡ []) (At G b kind align place vs)

-- The section of a kind of data item; without one, none of its bytes.
pub record IsSectionOf (b : List ℕ) (kind : ℕ) (s : Section) : Type 0 where
  pub ordered : s.begin ≤ s.end
  pub within : s.end ≤ length b
  pub some : s.begin < s.end → IsSection b kind s.begin s.end
  pub only : (begin end : ℕ) → IsSection b kind begin end → (begin ≡ s.begin) × (end ≡ s.end)
