-- The faults of an encoded_array: what is wrong with the bytes at its place.
-- Page: "Dalvik Executable format", "encoded_value encoding" and "encoded_array format".
use Rattle.std.specs.Prelude.{◌≡◌, ℕ, zero, suc, ◌⊎◌, ◌+◌, ◌-◌, ◌/◌, ◌%◌, ◌<◌, ◌≤◌, ◌==◌, if◌then◌else◌, List, [], ◌∷◌, length, take}
use Rattle.dex_base.specs.Grammar.{Takes, NoneBegins, Each}
use Rattle.dex_base.specs.Leb128.{Spells}
use Rattle.dex_base.specs.declared.fault.Fault.{Fault}
use Rattle.dex_container.specs.Where.{IsInSection, IsSectionRest}
use Rattle.program_types.specs.Content.{Name, Value}
use Rattle.program_types.specs.Depth.{most_depth}
use Rattle.dex_value.specs.Spelling.{unsigned_of, value_type_of}
use Rattle.dex_value.specs.Standing.{Shallow}

-- ---- heads

-- The greatest number of bytes after the head of a value of this type; 0 where no value of the type has any.
abbrev pub widest_of : ℕ → ℕ
widest_of type =
    if type == 0x00 then 1 else (
    if type == 0x02 then 2 else (
    if type == 0x03 then 2 else (
    if type == 0x04 then 4 else (
    if type == 0x06 then 8 else (
    if type == 0x10 then 4 else (
    if type == 0x11 then 8 else (
    if type == 0x17 then 4 else (
    if type == 0x18 then 4 else (
    if type == 0x19 then 4 else (
    if type == 0x1a then 4 else (
    if type == 0x1b then 4 else (
    0))))))))))))

-- The head of a value with bytes: of its type, and the argument is in the type's range.
abbrev pub IsSizedHead : ℕ → Type 0
IsSizedHead head = head / 32 < widest_of (head % 32)

-- The head of an array, null, false or true.
abbrev pub IsLoneHead : ℕ → Type 0
IsLoneHead head = (head ≡ 0x1c) ⊎ (head ≡ 0x1e) ⊎ (head ≡ 0x1f) ⊎ (head ≡ 0x3f)

-- ---- a value

-- The value that begins here has a type or an argument that no value has.
pub record IsUnknown (bytes : List ℕ) : Type 0 where
  pub head : ℕ
  pub rest : List ℕ
  pub first : bytes ≡ head ∷ rest
  pub not_sized : ¬ IsSizedHead head
  pub not_lone : ¬ IsLoneHead head

-- Here begins an array, where no depth is left.
pub record IsTooDeep (limit : ℕ) (bytes : List ℕ) : Type 0 where
  pub rest : List ℕ
  pub first : bytes ≡ 0x1c ∷ rest
  pub none_left : limit ≡ 0

-- The bytes end before the head of a value.
abbrev pub IsEnded : List ℕ → Type 0
IsEnded bytes = bytes ≡ []

-- The bytes end after the head of a value and before its last byte.
pub record IsCut (bytes : List ℕ) : Type 0 where
  pub head : ℕ
  pub rest : List ℕ
  pub first : bytes ≡ head ∷ rest
  pub sized : IsSizedHead head
  pub short : length rest < head / 32 + 1

-- The bytes end before the count of an array.
pub record HasNoCount (limit : ℕ) (bytes : List ℕ) : Type 0 where
  pub rest : List ℕ
  pub first : bytes ≡ 0x1c ∷ rest
  pub some_left : 0 < limit
  pub none : NoneBegins Spells rest

-- The name is of the kind that a value of this type names; VALUE_ENUM (0x1b) names a field (0x19).
abbrev pub IsNameOfType : ℕ → Name → Type 0
IsNameOfType type which = value_type_of which ≡ (if type == 0x1b then 0x19 else type)

-- The index of the value that begins here denotes no name.
pub record NamesNothing (N : ℕ → Name → Type 0) (bytes : List ℕ) : Type 0 where
  pub head : ℕ
  pub rest : List ℕ
  pub first : bytes ≡ head ∷ rest
  pub sized : IsSizedHead head
  pub named : 0x17 ≤ head % 32
  pub whole : head / 32 + 1 ≤ length rest
  pub nothing : (which : Name) → IsNameOfType (head % 32) which → ¬ N (unsigned_of (take (head / 32 + 1) rest)) which

-- 48 has the array's place.
abbrev pub values_fault : ℕ → Fault
values_fault off = record { code = 48; place = off }

-- 50 has the value's place: the section has these bytes from there to its end.
abbrev pub kind_fault : ℕ → List ℕ → Fault
kind_fault end bytes = record { code = 50; place = end - length bytes }

-- 51 has the value's place too.
abbrev pub depth_fault : ℕ → List ℕ → Fault
depth_fault end bytes = record { code = 51; place = end - length bytes }

-- The value itself that begins here is wrong, in the order of its checks.
abbrev pub OwnBreaks : (ℕ → Name → Type 0) → ℕ → ℕ → ℕ → List ℕ → Fault → Type 0
OwnBreaks N off end limit bytes fault =
    (IsUnknown bytes × (fault ≡ kind_fault end bytes))
    ⊎ (IsTooDeep limit bytes × (fault ≡ depth_fault end bytes))
    ⊎ ((IsEnded bytes ⊎ IsCut bytes ⊎ HasNoCount limit bytes) × (fault ≡ values_fault off))
    ⊎ (NamesNothing N bytes × (fault ≡ kind_fault end bytes))

-- Of n values some are encoded here by G, and the next one has the fault.
pub record NextBreaks (G : List ℕ → Value → Type 0) (ArrayBreaksAt : List ℕ → Fault → Type 0) (n : ℕ) (bytes : List ℕ) (fault : Fault) : Type 0 where
  pub before : List Value
  pub left : List ℕ
  pub spelled : Takes (Each G) bytes before left
  pub more : length before < n
  pub breaks : ArrayBreaksAt left fault

-- Here begins an array, and after its count one of its values is wrong.
pub record InsideBreaks (G : List ℕ → Value → Type 0) (ArrayBreaksAt : List ℕ → Fault → Type 0) (bytes : List ℕ) (fault : Fault) : Type 0 where
  pub rest : List ℕ
  pub first : bytes ≡ 0x1c ∷ rest
  pub n : ℕ
  pub after : List ℕ
  pub counted : Takes Spells rest n after
  pub next : NextBreaks G ArrayBreaksAt n after fault

-- A value of at most this depth is due here, and it is wrong, or one inside it is.
abbrev pub ValueBreaks : (ℕ → Name → Type 0) → ℕ → ℕ → ℕ → List ℕ → Fault → Type 0
ValueBreaks N off end zero bytes fault = OwnBreaks N off end 0 bytes fault
ValueBreaks N off end (suc limit) bytes fault =
    OwnBreaks N off end (suc limit) bytes fault
    ⊎ InsideBreaks (Shallow N limit) (ValueBreaks N off end limit) bytes fault

-- ---- an array of static values

-- The count is above what is wanted.
pub record HasTooMany (most : ℕ) (bytes : List ℕ) : Type 0 where
  pub n : ℕ
  pub after : List ℕ
  pub counted : Takes Spells bytes n after
  pub above : most < n

-- After a count of at most `most`, the values are at most 64 deep, and one is wrong.
pub record HasWrongValue (N : ℕ → Name → Type 0) (off end most : ℕ) (bytes : List ℕ) (fault : Fault) : Type 0 where
  pub n : ℕ
  pub after : List ℕ
  pub counted : Takes Spells bytes n after
  pub few : n ≤ most
  pub next : NextBreaks (Shallow N most_depth) (ValueBreaks N off end most_depth) n after fault

-- What is wrong with an encoded_array whose section has these bytes from it on.
abbrev pub ArrayBreaks : (ℕ → Name → Type 0) → ℕ → ℕ → ℕ → List ℕ → Fault → Type 0
ArrayBreaks N off end most bytes fault =
    (NoneBegins Spells bytes × (fault ≡ values_fault off))
    ⊎ (HasTooMany most bytes × (fault ≡ record { code = 49; place = off }))
    ⊎ HasWrongValue N off end most bytes fault

-- The place lies outside the encoded_array section (48), or what is there is wrong.
abbrev pub ArrayBreaksAt : (ℕ → Name → Type 0) → List ℕ → ℕ → ℕ → Fault → Type 0
ArrayBreaksAt N b off most fault =
    ((¬ IsInSection b 0x2005 off) × (fault ≡ values_fault off))
    ⊎ ((end : ℕ) × (bytes : List ℕ) × IsSectionRest 0x2005 b off end bytes × ArrayBreaks N off end most bytes fault)
