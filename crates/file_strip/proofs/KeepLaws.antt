-- The numbers of the rows that are kept.
use Rattle.std.proofs.Common.{◌≡◌, ℕ, zero, suc, ◌+◌, ◌<◌, ◌≤◌, List, length, get_or, sym, ap, subst, ◌∙◌, arith, slice_get, Some, inl, inr}
use Rattle.std.proofs.lemmas.Bool.{cases_lt}
use Rattle.std.proofs.lemmas.Option.{slice_get_within, slice_get-get_or, get_or_from_slice_get}
use Rattle.std.specs.List.{AllByRecursion}
use Rattle.dex_container.specs.Layout.{size_of}
use Rattle.program_types.specs.Content.{Units, Class, Program, Name, OfDesc}
use Rattle.program_types.specs.Mentions.{names_of_class}
use Rattle.tables_names.specs.Closure.{NameRanks}
use Rattle.tables_names.specs.inner.Closure.{Holds}
use Rattle.tables_names.specs.Needed.{needed}
use Rattle.tables_names.proofs.NeededLemmas.{needed_is_least}
use Rattle.file_renumber.specs.inner.Marked.{Columns, IsColumn}
use Rattle.file_renumber.specs.inner.Numbers.{Counts, IsKept, Carries}
use Rattle.file_renumber.proofs.ColumnLemmas.{before_next, before_few}
use Rattle.file_renumber.proofs.RankLemmas.{kept_rows_are_ranks, totals_are_lengths}
use Rattle.tables_rows.specs.Stands.{NameStands}
use Rattle.file_strip.specs.inner.Keeping.{Keeps}
use Rattle.file_renumber.proofs.ListLemmas.{all-part}
use Rattle.dex_base.proofs.ListFacts.{some_inj, all_weaker}

-- ---- one column

one_more : (j : ℕ) → suc j ≡ j + 1
one_more j = omega arith

pub number_is : (numbers : List ℕ) (i n : ℕ) → slice_get numbers i ≡ Some n → get_or numbers i 0 ≡ n
number_is numbers i n at = some_inj (get_or numbers i 0) n (sym (slice_get-get_or numbers i 0 (slice_get_within numbers i n at)) ∙ at)

module _ (n : ℕ) (column numbers : List ℕ) (shape : IsColumn n column) (counts : Counts column numbers) where
  pub numbers_long : length numbers ≡ n + 1
  numbers_long = counts.long ∙ shape.long

  step : (i : ℕ) → i < n → get_or numbers (i + 1) 0 ≡ get_or numbers i 0 + get_or column i 0
  step i lt =
      let long = shape.long in
      counts.each (i + 1) (omega (arith, lt, long)) ∙ before_next column i (omega (arith, lt, long)) ∙ ap (λ k. k + get_or column i 0) (sym (counts.each i (omega (arith, lt, long))))

  -- one more after a row that is kept
  pub next_kept : (i : ℕ) → i < n → IsKept numbers i → get_or numbers (i + 1) 0 ≡ get_or numbers i 0 + 1
  next_kept i lt k = let e = step i lt in let s = shape.small i in omega (arith, e, s, k)

  -- and none after another
  pub next_not_kept : (i : ℕ) → i < n → ¬ IsKept numbers i → get_or numbers (i + 1) 0 ≡ get_or numbers i 0
  next_not_kept i lt k = let e = step i lt in let s = shape.small i in omega (arith, e, s, k)

  pub first_number : get_or numbers 0 0 ≡ 0
  first_number = let long = shape.long in counts.each 0 (omega (arith, long))

  pub total_few : get_or numbers n 0 ≤ n
  total_few = let long = shape.long in let e = counts.each n (omega (arith, long)) in let f = before_few column n shape.small in omega (arith, e, f)

  -- numbers rise from a kept row on
  pub numbers_rise : (i j : ℕ) → i < j → j ≤ n → IsKept numbers i → get_or numbers i 0 < get_or numbers j 0
  numbers_rise i zero lt le k = absurd (omega (arith, lt))
  numbers_rise i (suc j) lt le k =
      let e = ap (λ (m : ℕ). get_or numbers m 0) (one_more j) ∙ step j (omega (arith, le)) in
      elim (cases_lt i j) [
        | inl less ↦ let r = numbers_rise i j less (omega (arith, le)) k in omega (arith, r, e)
        | inr ge ↦ let same : i + 1 ≡ suc j = omega (arith, lt, ge) in subst (λ (m : ℕ). get_or numbers i 0 < get_or numbers m 0) same k
      ]

-- ---- the file

module _ (b : List ℕ) (numbers : Columns) (p : Program) (k : Keeps b numbers p) where
  pub few_types : length (needed p).types ≤ 65535
  few_types =
      let e = (totals_are_lengths b k.marks (needed p) numbers k.tables k.marked k.numbered).types in
      let f = total_few (size_of b 1) k.marks.columns.types numbers.types k.marked.types.shape k.numbered.types in
      let h = k.marked.framed.sections.types in
      omega (arith, e, f, h)

  pub few_strings : length (needed p).strings ≤ 4294967295
  few_strings =
      let e = (totals_are_lengths b k.marks (needed p) numbers k.tables k.marked k.numbered).strings in
      let f = total_few (size_of b 0) k.marks.columns.strings numbers.strings k.marked.strings.shape k.numbered.strings in
      let h = k.marked.strings.shape.few in
      omega (arith, e, f, h)

  pub few_protos : length (needed p).protos ≤ 65535
  few_protos =
      let e = (totals_are_lengths b k.marks (needed p) numbers k.tables k.marked k.numbered).protos in
      let f = total_few (size_of b 2) k.marks.columns.protos numbers.protos k.marked.protos.shape k.numbered.protos in
      let h = k.marked.framed.sections.protos in
      omega (arith, e, f, h)

  -- each name that is held has its rank
  pub carried : (which : Name) → Holds (needed p) which → Carries (NameStands b) (NameRanks (needed p)) numbers which
  carried which h = kept_rows_are_ranks b k.marks (needed p) numbers k.tables k.marked k.numbered which h

  pub all_carried : (ts : List Units) → AllByRecursion (λ t. Holds (needed p) (OfDesc t)) ts → AllByRecursion (λ t. Carries (NameStands b) (NameRanks (needed p)) numbers (OfDesc t)) ts
  all_carried ts all = all_weaker (λ t. Holds (needed p) (OfDesc t)) (λ t. Carries (NameStands b) (NameRanks (needed p)) numbers (OfDesc t)) (λ t h. carried (OfDesc t) h) ts all

-- two programs that it keeps need as many strings and prototypes
pub same_lengths : (b : List ℕ) (numbers : Columns) (p q : Program) → Keeps b numbers p → Keeps b numbers q → (length (needed p).strings ≡ length (needed q).strings) × (length (needed p).protos ≡ length (needed q).protos)
same_lengths b numbers p q k l =
    let x = totals_are_lengths b k.marks (needed p) numbers k.tables k.marked k.numbered in
    let y = totals_are_lengths b l.marks (needed q) numbers l.tables l.marked l.numbered in
    (sym x.strings ∙ y.strings, sym x.protos ∙ y.protos)

-- ---- what a class mentions is held

pub class_holds : (p : Program) (i : ℕ) (c : Class) → slice_get p i ≡ Some c → AllByRecursion (Holds (needed p)) (names_of_class c)
class_holds p i c at = subst (λ (x : Class). AllByRecursion (Holds (needed p)) (names_of_class x)) (get_or_from_slice_get p i c c at) (all-part (Holds (needed p)) names_of_class p i c (needed_is_least p).1.holds (slice_get_within p i c at))
