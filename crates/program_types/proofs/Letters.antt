-- The letters of descriptors, by their first unit.
use Rattle.std.proofs.Common.{◌≡◌, ◌≢◌, ◌∙◌, inl, inr, ap, sym, refl, ℕ, zero, suc, ◌<◌, ◌≤◌, List, [], ◌∷◌, ◌++◌, length, map, get_or, arith, length-append}
use Rattle.std.proofs.lemmas.List.{length-map}
use Rattle.std.specs.Prelude.{replicate, slice_index}
use Rattle.dex_base.specs.Descriptor.{IsPrimitive, IsElement, IsDescriptor}
use Rattle.program_types.specs.Shorty.{letter_of}
use Rattle.program_types.specs.inner.Shorty.{StandsFor}
use Rattle.program_types.specs.View.{desc}
use Rattle.program_types.specs.declared.names.Desc.{Desc}

-- a primitive type's letter is no `[`
primitive_other : (c : ℕ) → IsPrimitive c → c ≢ 91
primitive_other c is = grind arith

-- an element of an array has units, and no `[` begins it
element_some : (element : List ℕ) → IsElement element → 0 < length element
element_some element (inl p) = rw p.2 (omega arith)
element_some element (inr p) = rw p.2 (omega arith)

element_other : (element : List ℕ) → IsElement element → slice_index element 0 ≢ 91
element_other element (inl p) = rw p.2 (primitive_other p.0 p.1)
element_other element (inr p) = rw p.2 (omega arith)

-- a descriptor has units
field_some : (n : ℕ) (element units : List ℕ) → IsElement element → units ≡ replicate n 91 ++ element → 0 < length units
field_some zero element units is e = rw e (element_some element is)
field_some (suc n) element units is e = rw e (omega arith)

pub descriptor_some : (units : List ℕ) → IsDescriptor units → 0 < length units
descriptor_some units (inl void) = rw void (omega arith)
descriptor_some units (inr field) = field_some field.0 field.1 units field.3 field.4

-- `[` alone is no descriptor
field_of_one : (n : ℕ) (element : List ℕ) (one : ℕ) → IsElement element → one ∷ [] ≡ replicate n 91 ++ element → one ≢ 91
field_of_one zero element one is e = let first : one ≡ slice_index element 0 = ap (λ units. slice_index units 0) e in rw first (element_other element is)
field_of_one (suc n) element one is e =
    let lengths : 1 ≡ suc (length (replicate n 91 ++ element)) = ap length e in
    absurd (grind (arith, lengths, length-append, element_some element is))

one_other : (one : ℕ) → IsDescriptor (one ∷ []) → one ≢ 91
one_other one (inl void) = let first : one ≡ 86 = ap (λ units. slice_index units 0) void in rw first (omega arith)
one_other one (inr field) = field_of_one field.0 field.1 one field.3 field.4

-- the letter of a first unit
letter_array : (units : List ℕ) → slice_index units 0 ≡ 91 → letter_of units ≡ 76
letter_array units first = rw first refl

letter_other : (units : List ℕ) → slice_index units 0 ≢ 91 → letter_of units ≡ slice_index units 0
letter_other units first = grind arith

-- of a descriptor the letter of its first unit stands for it
element_stands : (element : List ℕ) → IsElement element → StandsFor (letter_of element) element
element_stands element (inl p) = inr (rw (p.2, letter_other (p.0 ∷ []) (primitive_other p.0 p.1)) refl)
element_stands element (inr class) = inl (inl class, rw class.2 refl)

field_stands : (n : ℕ) (element units : List ℕ) → n ≤ 255 → IsElement element → units ≡ replicate n 91 ++ element → StandsFor (letter_of units) units
field_stands zero element units few is e = rw e (element_stands element is)
field_stands (suc n) element units few is e =
    let first : slice_index units 0 ≡ 91 = rw e refl in
    inl (inr (inr (suc n, element, few, is, e), first), letter_array units first)

pub letter_stands : (units : List ℕ) → IsDescriptor units → StandsFor (letter_of units) units
letter_stands units (inl void) = inr (rw void refl)
letter_stands units (inr field) = field_stands field.0 field.1 units field.2 field.3 field.4

-- and no other letter does
pub letter_only : (units : List ℕ) (one : ℕ) → IsDescriptor units → StandsFor one units → one ≡ letter_of units
letter_only units one is (inl (inl class, letter)) = rw (class.2, letter) refl
letter_only units one is (inl (inr array, letter)) = letter ∙ sym (letter_array units array.1)
letter_only units one is (inr alone) =
    let is_one : IsDescriptor (one ∷ []) = rw alone at is in
    rw (alone, letter_other (one ∷ []) (one_other one is_one)) refl

-- ---- the letters of a list

abbrev pub letters : List Desc → List ℕ
letters params = map letter_of (map desc params)

pub letter_at : (params : List Desc) (k : ℕ) (d : Desc) → k < length params → get_or (letters params) k 0 ≡ letter_of (desc (get_or params k d))
letter_at [] k d lt = absurd (omega (arith, lt))
letter_at (x ∷ xs) zero d lt = refl
letter_at (x ∷ xs) (suc k) d lt = letter_at xs k d (omega (arith, lt))

pub length-letters : (params : List Desc) → length (letters params) ≡ length params
length-letters params = length-map (map desc params) letter_of ∙ length-map params desc
