-- Class rows, their interfaces and their order.
use Rattle.std.proofs.Common.{◌≡◌, ◌≢◌, ℕ, ◌+◌, ◌*◌, ◌/◌, ◌<◌, ◌≤◌, inl, inr, List, length, Option, Some, None, sym, ap, ◌∙◌, subst, arith, slice_get}
use Rattle.std.specs.List.{AllByRecursion}
use Rattle.std.proofs.lemmas.Bool.{cases_lt}
use Rattle.std.proofs.lemmas.Option.{slice_get_within}
use Rattle.dex_base.specs.Descriptor.{IsClass}
use Rattle.dex_container.specs.Frame.{IsFramed}
use Rattle.dex_container.specs.Layout.{size_of}
use Rattle.program_types.specs.Content.{Units}
use Rattle.tables_rows.specs.Names.{AreRows}
use Rattle.tables_rows.specs.Stands.{TypesAt}
use Rattle.tables_rows.proofs.TypeLists.{types_one}
use Rattle.file_classes.specs.Classes.{NoTypeTwice, InterfacesAt}
use Rattle.file_classes.specs.inner.Reading.{IsNotAmong}
use Rattle.file_classes.specs.ClassRows.{class_word, NoneDefines, InterfaceIndexes}
use Rattle.tables_rows.specs.inner.Halves.{halves}
use Rattle.tables_rows.proofs.HalvesLaws.{list_or_none_one}
use Rattle.file_classes.proofs.EntryLaws.{entry_at}

-- an index that has no row
pub row_missing : {V : Type 0} (S : List ℕ → ℕ → V → Type 0) (b : List ℕ) (k i : ℕ) (names : List V) → AreRows S b k names → None ≡ slice_get names i → size_of b k ≤ i
row_missing S b k i names rows none = elim (cases_lt i (length names)) [
  | inl lt ↦ let at = entry_at names i lt in absurd (differ at.0 (none ∙ at.1))
  | inr ge ↦ let n = rows.count in omega (arith, n, ge)
]
  where
    differ : {A : Type 0} (x : A) → ◌≡◌ {A = Option A} None (Some x) → ⊥
    differ x e = cc

-- ---- interfaces

same_some : {A : Type 0} (x y : A) → ◌≡◌ {A = Option A} (Some x) (Some y) → x ≡ y
same_some x y e = cc

-- one more type is another one
pub not_among_more : (ts : List Units) (i n : ℕ) (s t : Units) → IsNotAmong ts i n → slice_get ts i ≡ Some s → slice_get ts n ≡ Some t → s ≢ t → IsNotAmong ts (i + 1) n
not_among_more ts i n s t before at_i at_n differ j u lt at_j here = elim (cases_lt j i) [
  | inl less ↦ before j u less at_j here
  | inr ge ↦
      let e : j ≡ i = omega arith in
      let us : u ≡ s = same_some u s (sym at_j ∙ ap (slice_get ts) e ∙ at_i) in
      let ut : u ≡ t = same_some u t (sym here ∙ at_n) in
      differ (sym us ∙ ut)
]

pub among : (ts : List Units) (i n : ℕ) (s t : Units) → i < n → slice_get ts i ≡ Some s → slice_get ts n ≡ Some t → s ≡ t → IsNotAmong ts n n → ⊥
among ts i n s t lt at_i at_n same none = none i t lt (at_i ∙ ap Some same) at_n

pub distinct_from : (ts : List Units) (n : ℕ) → length ts ≤ n → ((k : ℕ) → k < n → IsNotAmong ts k k) → NoTypeTwice ts
distinct_from ts n all new j k t at_j at_k =
    let wj = slice_get_within ts j t at_j in
    let wk = slice_get_within ts k t at_k in
    elim (cases_lt j k) [
      | inl lt ↦ absurd (new k (omega arith) j t lt at_j at_k)
      | inr ge ↦ elim (cases_lt k j) [
        | inl lt ↦ absurd (new j (omega arith) k t lt at_k at_j)
        | inr le ↦ omega arith
      ]
    ]

module _ (b : List ℕ) (framed : IsFramed b) (off : ℕ) (here : List Units) (types : TypesAt b off here) where
  pub no_classes : (AllByRecursion IsClass here → ⊥) → (ts : List Units) → InterfacesAt b off ts → ⊥
  no_classes not ts at = not (subst (λ (x : List Units). AllByRecursion IsClass x) (types_one b off ts here framed at.types types) at.classes)

  pub not_distinct : (NoTypeTwice here → ⊥) → (ts : List Units) → InterfacesAt b off ts → ⊥
  not_distinct not ts at = not (subst (λ (x : List Units). NoTypeTwice x) (types_one b off ts here framed at.types types) at.distinct)

-- ---- order

pub undefined_same : (b : List ℕ) (from to end t u : ℕ) → to ≡ end → t ≡ u → NoneDefines b from to t → NoneDefines b from end u
undefined_same b from to end t u e f none = subst (λ (n : ℕ). NoneDefines b from n u) e (subst (λ (x : ℕ). NoneDefines b from to x) f none)

-- the interfaces that a row has are one list
module _ (b : List ℕ) (framed : IsFramed b) (i : ℕ) (here : List ℕ) (at : InterfaceIndexes b i here) (P : List ℕ → Type 0) where
  pub to_each : P here → (indexes : List ℕ) → InterfaceIndexes b i indexes → P indexes
  to_each p indexes other = subst P (list_or_none_one b framed 0x1001 4 (class_word b i 3) here indexes at other) p

pub index_at : (types : List ℕ) (k : ℕ) → length types ≡ 2 * length (halves types) → k < length types / 2 → k < length (halves types)
index_at types k even lt = omega arith
