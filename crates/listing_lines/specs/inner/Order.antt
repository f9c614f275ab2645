-- An order of names, in which labels that were printed rise.
use Rattle.std.specs.Prelude.{ℕ, Bool, List, length}
use Rattle.std.specs.declared.cmp.Ordering.{Ordering}
use Rattle.std.specs.Ordering.{ordering_then, nat_cmp, is_lt}
use Rattle.std.specs.Cmp.Lexicographic.{slice_cmp}
use Rattle.std.specs.List.{list_all}
use Rattle.std.specs.List.Sorted.{IsStrictlySortedBy}
use Rattle.listing_lines.specs.Labels.{Label}

-- A shorter name is less, and of one length they compare by their bytes.
abbrev pub shortlex : List ℕ → List ℕ → Ordering
shortlex a b = ordering_then (nat_cmp (length a) (length b)) (slice_cmp nat_cmp a b)

-- Each label's name is less than the next one's.
abbrev pub LabelsRise : List Label → Type 0
LabelsRise ls = IsStrictlySortedBy (λ (a b : Label). shortlex a.name b.name) ls

-- All names of the labels are less than this one.
abbrev pub is_above : List Label → List ℕ → Bool
is_above ls name = list_all (λ (l : Label). is_lt (shortlex l.name name)) ls
