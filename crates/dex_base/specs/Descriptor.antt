-- Names and type descriptors, as lists of UTF-16 units: "Dalvik Executable format", section "String syntax"
-- (SimpleName, MemberName, FullClassName, TypeDescriptor), in version 035.
use Rattle.std.specs.Prelude.{◌≡◌, ◌≢◌, ℕ, ◌+◌, ◌-◌, ◌/◌, ◌%◌, ◌≤◌, ◌⊎◌, List, [], ◌∷◌, ◌++◌, replicate, slice_index, codes, if◌then◌else◌, nat_lt}
use Rattle.std.specs.List.{flat_map, AllByRecursion}

-- From one number to another, both included.
abbrev pub IsWithin : ℕ → ℕ → ℕ → Type 0
IsWithin low high c = (low ≤ c) × (c ≤ high)

-- A code point of a name (SimpleNameChar): A-Z a-z 0-9 $ - _ and five ranges.
abbrev pub IsNamePoint : ℕ → Type 0
IsNamePoint c =
    IsWithin 65 90 c ⊎ IsWithin 97 122 c ⊎ IsWithin 48 57 c ⊎ (c ≡ 36) ⊎ (c ≡ 45) ⊎ (c ≡ 95)
    ⊎ IsWithin 0xa1 0x1fff c ⊎ IsWithin 0x2010 0x2027 c ⊎ IsWithin 0x2030 0xd7ff c ⊎ IsWithin 0xe000 0xffef c ⊎ IsWithin 0x10000 0x10ffff c

-- The UTF-16 units of a code point: itself, or its two surrogates.
abbrev pub point_units : ℕ → List ℕ
point_units c = if nat_lt c 0x10000 then c ∷ [] else (0xd800 + (c - 0x10000) / 1024) ∷ (0xdc00 + (c - 0x10000) % 1024) ∷ []

-- One or more such code points.
pub record IsSimpleName (units : List ℕ) : Type 0 where
  pub points : List ℕ
  pub some : points ≢ []
  pub allowed : AllByRecursion IsNamePoint points
  pub spelled : units ≡ flat_map point_units points

-- A simple name, or one between `<` and `>`.
abbrev pub IsMemberName : List ℕ → Type 0
IsMemberName units = IsSimpleName units ⊎ ((inner : List ℕ) × IsSimpleName inner × (units ≡ codes "<" ++ inner ++ codes ">"))

-- These simple names, joined by `/` (47).
abbrev pub Joins : List ℕ → List (List ℕ) → Type 0
Joins units [] = ⊥
Joins units (n ∷ []) = IsSimpleName n × (units ≡ n)
Joins units (n ∷ m ∷ ns) = IsSimpleName n × ((rest : List ℕ) × (units ≡ n ++ 47 ∷ rest) × Joins rest (m ∷ ns))

-- Some simple names, joined by `/` (FullClassName).
abbrev pub IsClassName : List ℕ → Type 0
IsClassName units = (names : List (List ℕ)) × Joins units names

-- The descriptor of a class: `L`, a class name, `;`.
abbrev pub IsClass : List ℕ → Type 0
IsClass units = (name : List ℕ) × IsClassName name × (units ≡ codes "L" ++ name ++ codes ";")

-- Z B S C I J F D.
abbrev pub IsPrimitive : ℕ → Type 0
IsPrimitive c = (c ≡ 90) ⊎ (c ≡ 66) ⊎ (c ≡ 83) ⊎ (c ≡ 67) ⊎ (c ≡ 73) ⊎ (c ≡ 74) ⊎ (c ≡ 70) ⊎ (c ≡ 68)

-- A primitive type or a class (NonArrayFieldTypeDescriptor).
abbrev pub IsElement : List ℕ → Type 0
IsElement units = ((c : ℕ) × IsPrimitive c × (units ≡ c ∷ [])) ⊎ IsClass units

-- At most 255 `[` (91), and after them a primitive type or a class (FieldTypeDescriptor).
abbrev pub IsFieldType : List ℕ → Type 0
IsFieldType units = (n : ℕ) × (element : List ℕ) × (n ≤ 255) × IsElement element × (units ≡ replicate n 91 ++ element)

-- `V`, or the type of a field (TypeDescriptor).
abbrev pub IsDescriptor : List ℕ → Type 0
IsDescriptor units = (units ≡ codes "V") ⊎ IsFieldType units

-- The descriptor of an array: one that begins with `[` (91).
abbrev pub IsArray : List ℕ → Type 0
IsArray units = IsDescriptor units × (slice_index units 0 ≡ 91)

-- ---- such a text at the front of units

-- No front of the units is such a text.
abbrev pub NoFront : (List ℕ → Type 0) → List ℕ → Type 0
NoFront IsText units = (front rest : List ℕ) → units ≡ front ++ rest → IsText front → ⊥

-- No such text begins another one.
abbrev pub IsPrefixFree : (List ℕ → Type 0) → Type 0
IsPrefixFree IsText = (a b x y : List ℕ) → IsText a → IsText b → a ++ x ≡ b ++ y → (a ≡ b) × (x ≡ y)
