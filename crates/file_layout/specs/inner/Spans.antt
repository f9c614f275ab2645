-- What the map of a written file names: each kind with its items and the bytes from `begin` to `end`.
-- Page: "Dalvik Executable format", "map_list" and "map_item".
use Rattle.std.specs.Prelude.{◌≡◌, ℕ, ◌+◌, ◌<◌, Bool, nat_lt, List, length, slice_index_or}
use Rattle.dex_base.specs.Fields.{u16_at}
use Rattle.dex_container.specs.Layout.{entry_count, entry_place, kind_at, items_at, place_at}

-- a kind, how many items it has, and the bytes that they take
pub record Span : Type 0 where
  pub kind : ℕ
  pub items : ℕ
  pub begin : ℕ
  pub end : ℕ

-- a span has items
abbrev pub has_items : Span → Bool
has_items s = nat_lt 0 s.items

-- what stands for a span past the end of a list
abbrev pub no_span : Span
no_span = record { kind = 0; items = 0; begin = 0; end = 0 }

-- the span of this number
abbrev pub span_at : List Span → ℕ → Span
span_at spans i = slice_index_or spans i no_span

-- The entries of the map are those of these spans, in this order, each with its two unused bytes 0.
pub record MapNames (b : List ℕ) (spans : List Span) : Type 0 where
  pub count : entry_count b ≡ length spans
  pub kinds : (i : ℕ) → i < length spans → kind_at b i ≡ (span_at spans i).kind
  pub items : (i : ℕ) → i < length spans → items_at b i ≡ (span_at spans i).items
  pub places : (i : ℕ) → i < length spans → place_at b i ≡ (span_at spans i).begin
  pub unused : (i : ℕ) → i < length spans → u16_at b (entry_place b i + 2) ≡ 0
