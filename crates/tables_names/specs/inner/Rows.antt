-- Beside Rows.antt: what no promise reaches.
use Rattle.std.specs.Prelude.{◌≡◌, ℕ, ◌<◌, List, [], ◌∷◌, map, length, slice_index_or}
use Rattle.std.specs.Ordering.{nat_cmp, ordering_then}
use Rattle.std.specs.declared.cmp.Ordering.{Ordering}
use Rattle.std.specs.List.{AllByRecursion}
use Rattle.std.specs.Cmp.Lexicographic.{slice_cmp}
use Rattle.std.specs.List.Sorted.{IsStrictlySortedBy}
use Rattle.program_types.specs.Key.{Key}
use Rattle.tables_names.specs.Rank.{Rising}
use Rattle.tables_names.specs.Rows.{first_of}

-- the text of row i
abbrev pub text_at : List Key → ℕ → List ℕ
text_at table i = first_of (slice_index_or table i [])

-- each key is one text
abbrev pub AreTexts : List Key → Type 0
AreTexts table = AllByRecursion (λ k. k ≡ first_of k ∷ []) table

-- the types of rows that are string indices
abbrev pub types_of_rows : List Key → List ℕ → List Key
types_of_rows strings rows = map (λ i. text_at strings i ∷ []) rows

-- the protos of rows that are type indices: the return type, then the parameters
abbrev pub protos_of_rows : List Key → List (List ℕ) → List Key
protos_of_rows types rows = map (λ row. map (text_at types) row) rows

-- Over rising strings, types that rise by index rise by name.
abbrev pub TypesRise : Type 0
TypesRise =
    (strings : List Key) (rows : List ℕ) → Rising strings → AreTexts strings → AllByRecursion (λ i. i < length strings) rows → IsStrictlySortedBy nat_cmp rows → Rising (types_of_rows strings rows)

-- Over rising types, so do protos.
abbrev pub ProtosRise : Type 0
ProtosRise =
    (types : List Key) (rows : List (List ℕ)) → Rising types → AreTexts types → AllByRecursion (AllByRecursion (λ i. i < length types)) rows → IsStrictlySortedBy (slice_cmp nat_cmp) rows → Rising (protos_of_rows types rows)

-- the fields of rows that are a class, a name and a type
abbrev pub field_of_row : List Key → List Key → ℕ × ℕ × ℕ → Key
field_of_row strings types row = text_at types row.0 ∷ text_at strings row.1 ∷ text_at types row.2 ∷ []

-- the first index that differs decides
abbrev pub row_cmp : ℕ × ℕ × ℕ → ℕ × ℕ × ℕ → Ordering
row_cmp r s = ordering_then (nat_cmp r.0 s.0) (ordering_then (nat_cmp r.1 s.1) (nat_cmp r.2 s.2))

-- Over rising strings and types, so do fields.
abbrev pub FieldsRise : Type 0
FieldsRise =
    (strings types : List Key) (rows : List (ℕ × ℕ × ℕ)) → Rising strings → AreTexts strings → Rising types → AreTexts types → AllByRecursion (λ r. (r.0 < length types) × (r.1 < length strings) × (r.2 < length types)) rows → IsStrictlySortedBy row_cmp rows → Rising (map (field_of_row strings types) rows)

-- the methods of rows that are a class, a name and a proto
abbrev pub method_of_row : List Key → List Key → List Key → ℕ × ℕ × ℕ → Key
method_of_row strings types protos row = text_at types row.0 ∷ text_at strings row.1 ∷ slice_index_or protos row.2 []

-- Over rising strings, types and protos, so do methods.
abbrev pub MethodsRise : Type 0
MethodsRise =
    (strings types protos : List Key) (rows : List (ℕ × ℕ × ℕ)) → Rising strings → AreTexts strings → Rising types → AreTexts types → Rising protos → AllByRecursion (λ r. (r.0 < length types) × (r.1 < length strings) × (r.2 < length protos)) rows → IsStrictlySortedBy row_cmp rows → Rising (map (method_of_row strings types protos) rows)
