-- What the map asks of spans.
use Rattle.std.proofs.Common.{◌≡◌, ℕ, suc, ◌+◌, ◌*◌, ◌<◌, ◌≤◌, List, [], ◌∷◌}
use Rattle.std.specs.Prelude.{⊤, if◌then◌else◌, nat_lt, ◌==◌}
use Rattle.dex_container.specs.Layout.{size_of, offset_of, row_bytes, map_place, map_end, data_begin, data_end}
use Rattle.dex_container.specs.Frame.{IsKind}
use Rattle.file_layout.specs.inner.Spans.{Span}

-- The spans stand one after the other; those with items take bytes. `ranks` numbers the kinds as they come.
abbrev pub Follow : (ℕ → ℕ) → ℕ → ℕ → List Span → Type 0
Follow rank at n [] = ⊤
Follow rank at n (s ∷ ss) = (at ≤ s.end) × (0 < s.items → (at ≤ s.begin) × (s.begin < s.end)) × (n ≤ rank s.kind) × Follow rank s.end (suc (rank s.kind)) ss

-- the order of the kinds in a written file
abbrev pub rank : ℕ → ℕ
rank kind =
    if nat_lt kind 7 then kind
    else if kind == 0x1001 then 7
    else if kind == 0x2001 then 8
    else if kind == 0x2002 then 9
    else if kind == 0x2005 then 10
    else if kind == 0x2000 then 11
    else 12

-- a span, and those after it
pub follows : {X : Type 0} (at n kind items begin end : ℕ) → at ≤ end → (0 < items → (at ≤ begin) × (begin < end)) → n ≤ rank kind → X → (at ≤ end) × (0 < items → (at ≤ begin) × (begin < end)) × (n ≤ rank kind) × X
follows at n kind items begin end a b c x = (a, b, c, x)

-- what the format asks of the span of a kind
pub record IsNamed (b : List ℕ) (s : Span) : Type 0 where
  pub known : IsKind s.kind
  pub header : s.kind ≡ 0 → (s.begin ≡ 0) × (s.items ≡ 1)
  pub table : (k : ℕ) → k < 6 → s.kind ≡ k + 1 → (s.items ≡ size_of b k) × (s.begin ≡ offset_of b k) × (s.end ≡ offset_of b k + row_bytes k * size_of b k)
  pub map : s.kind ≡ 0x1000 → (s.items ≡ 1) × (s.begin ≡ map_place b) × (s.end ≡ map_end b)
  pub inside : 0x1000 ≤ s.kind → (data_begin b ≤ s.begin) × (s.end ≤ data_end b)

-- the first of a list of facts, and the others
infixr 5 ◌&◌
pub ◌&◌ : {A B : Type 0} → A → B → A × B
◌&◌ x y = (x, y)
