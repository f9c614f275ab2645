-- Names in words: units that are plain or escaped, and the texts of fields, methods and prototypes.
-- Page: docs/LISTING.md, "What a word can be"; "Dalvik Executable format", "String syntax".
use Rattle.std.specs.Prelude.{◌≡◌, ◌≢◌, ℕ, ◌+◌, ◌⊎◌, List, [], ◌∷◌, ◌++◌}
use Rattle.std.specs.List.{flat_map, AllByRecursion}
use Rattle.dex_base.specs.Descriptor.{IsDescriptor, IsMemberName}
use Rattle.program_types.specs.Content.{Proto, FieldRef, MethodRef}
use Rattle.listing_words.specs.Taking.{EachTaken}
use Rattle.listing_words.specs.Texts.{TakesHex}

-- One unit: itself, or `\uXXXX`.
abbrev pub TakesNameUnit : List ℕ → ℕ → List ℕ → Type 0
TakesNameUnit text u rest = ((u ≢ 92) × (text ≡ u ∷ rest)) ⊎ TakesHex text u rest

-- The units of a whole word.
abbrev pub SpellsUnits : List ℕ → List ℕ → Type 0
SpellsUnits word us = EachTaken TakesNameUnit word us []

-- A prototype: `(P..)R`
pub record IsProtoText (us : List ℕ) (p : Proto) : Type 0 where
  pub params : AllByRecursion IsDescriptor p.params
  pub ret : IsDescriptor p.ret
  pub joined : us ≡ 40 ∷ (flat_map (λ t. t) p.params ++ (41 ∷ p.ret))

-- A field: `C->n:T`
pub record IsFieldText (us : List ℕ) (f : FieldRef) : Type 0 where
  pub class : IsDescriptor f.class
  pub name : IsMemberName f.name
  pub ty : IsDescriptor f.ty
  pub joined : us ≡ f.class ++ (45 ∷ 62 ∷ (f.name ++ (58 ∷ f.ty)))

-- A method: `C->n(P..)R`
pub record IsMethodText (us : List ℕ) (m : MethodRef) : Type 0 where
  pub class : IsDescriptor m.class
  pub name : IsMemberName m.name
  pub tail : List ℕ
  pub proto : IsProtoText tail m.proto
  pub joined : us ≡ m.class ++ (45 ∷ 62 ∷ (m.name ++ tail))

-- ---- contracts of private helpers
