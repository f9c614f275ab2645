-- Beside Parts.antt: what no promise reaches.
use Rattle.std.specs.Prelude.{◌≡◌, ℕ, ◌<◌, ◌≤◌, List}
use Rattle.dex_container.specs.Layout.{entry_count, kind_at, items_at}
use Rattle.dex_container.specs.Frame.{IsSection}
use Rattle.file_layout.specs.declared.plan.Part.{Part}

-- The section of a kind begins here, and ends there or later.
pub record SectionReaches (b : List ℕ) (kind begin end : ℕ) : Type 0 where
  pub last : ℕ
  pub section : IsSection b kind begin last
  pub reaches : end ≤ last

-- The map has for the kind the number of items of the part; with items the part is in the section of the kind, at its
-- front.
pub record HasPart (b : List ℕ) (kind : ℕ) (p : Part) : Type 0 where
  pub counted : (i : ℕ) → i < entry_count b → kind_at b i ≡ kind → items_at b i ≡ p.items
  pub stands : 0 < p.items → SectionReaches b kind p.begin p.end
