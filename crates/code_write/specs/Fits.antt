-- Codes that can be written: what of a code has to fit the widths of a file's fields.
-- Pages: "Dalvik Executable instruction formats", the widths of BBBB, AA and AAAAAAAA; "Dalvik Executable format", "code_item"
-- and "try_item".
use Rattle.std.specs.Prelude.{ℕ, ℤ, pos, ◌-ℤ◌, ◌≡◌, ◌≢◌, ◌≤◌, ◌<◌, ◌+◌, ◌-◌, ◌*◌, ◌%◌, List, length, slice_index, FitsSigned, Option, Some, None, IfSome, ⊤}
use Rattle.std.specs.Int.{w8, w16, w32}
use Rattle.std.specs.List.{AllByRecursion, flat_map}
use Rattle.dex_base.specs.declared.fault.Fault.{Fault}
use Rattle.dex_insn.specs.declared.opcode.IndexKind.{IndexKind}
use Rattle.dex_insn.specs.declared.opcode.IndexKind.TheVariants as kind
use Rattle.program_types.specs.Content.{Name, Insn, Code, Try}
use Rattle.program_types.specs.Content as made
use Rattle.program_types.specs.Mentions.{names_of_code}
use Rattle.program_types.specs.Kinds.{IsOfKind}
use Rattle.program_types.specs.Sizes.{addresses_of, length_of}
use Rattle.program_types.specs.Formed.{insn_at, try_at, insn_payload, insn_targets, RefersToPayload}
use Rattle.code_write.specs.Packs.{PacksHandlersOf}

-- ---- indices

-- the name whose index has a field of 16 bits, if the instruction has one
abbrev pub short_name : Insn → Option Name
short_name (made.I21c op a which) = Some which
short_name (made.I22c op a b which) = Some which
short_name (made.I35c op n regs which) = Some which
short_name (made.I3rc op n first which) = Some which
short_name _ = None

-- The index of the name in the instruction fits its field of 16 bits, if there is such a name and it is of this kind.
abbrev pub ShortFits : (ℕ → Name → Type 0) → IndexKind → Insn → Type 0
ShortFits N k i = IfSome (short_name i) (λ which. IsOfKind k which → (index : ℕ) → N index which → index < 65536)

-- the name has an index below the limit
abbrev pub HasIndexBelow : (ℕ → Name → Type 0) → ℕ → Name → Type 0
HasIndexBelow N limit which = (i : ℕ) × (i < limit) × N i which

-- ---- offsets

-- how far an instruction is from an address, in units
abbrev pub distance_of : List ℕ → ℕ → ℕ → ℤ
distance_of ss at to = pos (slice_index ss to) -ℤ pos at

-- the offset of a branch from the address `at`, or of what refers to a payload, fits its field
abbrev pub BranchFits : List ℕ → ℕ → Insn → Type 0
BranchFits ss at (made.I10t op to) = FitsSigned w8 (distance_of ss at to)
BranchFits ss at (made.I20t op to) = FitsSigned w16 (distance_of ss at to)
BranchFits ss at (made.I21t op a to) = FitsSigned w16 (distance_of ss at to)
BranchFits ss at (made.I22t op a b to) = FitsSigned w16 (distance_of ss at to)
BranchFits ss at (made.I30t op to) = FitsSigned w32 (distance_of ss at to)
BranchFits ss at (made.I31t op a to) = FitsSigned w32 (distance_of ss at to)
BranchFits ss at _ = ⊤

-- all offsets of a switch's payload fit
abbrev pub TargetsFit : List ℕ → ℕ → Insn → Type 0
TargetsFit ss at i = AllByRecursion (λ to. FitsSigned w32 (distance_of ss at to)) (insn_targets i)

-- The offsets in instruction k fit, those of a switch's payload counted from its switch.
pub record OffsetsFit (is : List Insn) (ss : List ℕ) (k : ℕ) : Type 0 where
  pub branch : BranchFits ss (slice_index ss k) (insn_at is k)
  pub targets : (j : ℕ) → RefersToPayload is j k → TargetsFit ss (slice_index ss j) (insn_at is k)

-- Instruction k, if it is a payload, has an even address.
abbrev pub IsEven : List Insn → List ℕ → ℕ → Type 0
IsEven is ss k = insn_payload (insn_at is k) ≢ None → slice_index ss k % 2 ≡ 0

-- ---- tries

-- The units that try i covers, as far as the address of its last instruction, fit its count.
abbrev pub TryFits : List ℕ → List Try → ℕ → Type 0
TryFits ss ts i = slice_index ss ((try_at ts i).to - 1) + 1 ≤ slice_index ss (try_at ts i).from + 65535

-- In the written order each handler begins at an offset below 65536.
abbrev pub HandlersAreNear : (ℕ → Name → Type 0) → List ℕ → List Try → Type 0
HandlersAreNear N ss ts = (list offs : List ℕ) → PacksHandlersOf N ss ts list offs → (i : ℕ) → i < length offs → slice_index offs i < 65536

-- In the written order some handler begins past offset 65535.
pub record SomeHandlerIsFar (N : ℕ → Name → Type 0) (ss : List ℕ) (ts : List Try) : Type 0 where
  pub list : List ℕ
  pub offs : List ℕ
  pub laid : PacksHandlersOf N ss ts list offs
  pub index : ℕ
  pub inside : index < length offs
  pub far : 65535 < slice_index offs index

-- ---- the size

-- how many catches tries have
abbrev pub catches_in : List Try → ℕ
catches_in ts = length (flat_map (λ t. t.catches) ts)

-- how many bytes a code takes at most, the plain sum with five bytes for each LEB128 number and nothing shared: header, padding,
-- the count of handlers and alignment, the units, a try_item and two numbers a try, two numbers a catch
abbrev pub wide_code : Code → ℕ
wide_code c = 26 + 2 * length_of c.insns + 18 * length c.tries + 10 * catches_in c.tries

-- ---- a code

-- each instruction keeps the rule
abbrev pub AllInsns : (Insn → Type 0) → Code → Type 0
AllInsns P c = (k : ℕ) → k < length c.insns → P (insn_at c.insns k)

-- each number of an instruction keeps the rule
abbrev pub AllNumbers : (List Insn → List ℕ → ℕ → Type 0) → Code → Type 0
AllNumbers P c = (k : ℕ) → k < length c.insns → P c.insns (addresses_of c.insns) k

-- each try keeps the rule
abbrev pub AllTries : (List ℕ → List Try → ℕ → Type 0) → Code → Type 0
AllTries P c = (i : ℕ) → i < length c.tries → P (addresses_of c.insns) c.tries i

-- The code fits: the indices of strings, fields and methods, offsets, the addresses of payloads, the counts of tries and their
-- number, and the offsets of handlers.
pub record FitsCode (N : ℕ → Name → Type 0) (c : Code) : Type 0 where
  pub strings : AllInsns (ShortFits N kind.String) c
  pub fields : AllInsns (ShortFits N kind.Field) c
  pub methods : AllInsns (ShortFits N kind.Method) c
  pub offsets : AllNumbers OffsetsFit c
  pub even : AllNumbers IsEven c
  pub tries : AllTries TryFits c
  pub few : length c.tries ≤ 65535
  pub handlers : wide_code c ≤ 4294967295 → HandlersAreNear N (addresses_of c.insns) c.tries

-- Beyond that a code that is written has indices of 32 bits, those of types in fields of 16 bits fit these, and it is short.
pub record CanBePut (N : ℕ → Name → Type 0) (c : Code) : Type 0 where
  pub ranked : AllByRecursion (HasIndexBelow N 4294967296) (names_of_code c)
  pub types : AllInsns (ShortFits N kind.Type) c
  pub short : wide_code c ≤ 4294967295

-- ---- the limits that a code breaks

-- The code breaks the limit of this number.
pub data CodeBreaksLimit (N : ℕ → Name → Type 0) (c : Code) : ℕ → Type 0 where
  -- an index of a string, a field or a method is past its field of 16 bits
  StringOutOfReach : (¬ AllInsns (ShortFits N kind.String) c) → CodeBreaksLimit N c 82
  FieldOutOfReach : (¬ AllInsns (ShortFits N kind.Field) c) → CodeBreaksLimit N c 83
  MethodOutOfReach : (¬ AllInsns (ShortFits N kind.Method) c) → CodeBreaksLimit N c 84
  -- an offset is past its field, a payload has an odd address
  BranchOutOfReach : (¬ AllNumbers OffsetsFit c) → CodeBreaksLimit N c 85
  Misaligned : (¬ AllNumbers IsEven c) → CodeBreaksLimit N c 86
  -- a try covers too much, there are too many
  TryTooLong : (¬ AllTries TryFits c) → CodeBreaksLimit N c 87
  TooManyTries : 65535 < length c.tries → CodeBreaksLimit N c 88
  -- a handler is too far after the begin of the list, in a code that is not too big itself
  HandlerTooFar : wide_code c ≤ 4294967295 → SomeHandlerIsFar N (addresses_of c.insns) c.tries → CodeBreaksLimit N c 89

-- The fault names the lowest limit that the code breaks; it has no place of its own.
pub record IsUnfit (N : ℕ → Name → Type 0) (c : Code) (fault : Fault) : Type 0 where
  pub breaks : CodeBreaksLimit N c fault.code
  pub lowest : (number : ℕ) → CodeBreaksLimit N c number → fault.code ≤ number
  pub place : fault.place ≡ 0
