-- The instructions of a code that has nothing to do with payloads, before it is known where all of them begin: the
-- contracts of visiting.rt's private functions are written with it.
-- Pages: "Dalvik Executable instruction formats", "Format IDs": the letter t, a branch target; "Dalvik bytecode": goto, if-test.
use Rattle.std.specs.Prelude.{ℕ, ℤ, pos, ◌≡◌, ◌≢◌, ◌+ℤ◌, ◌%◌, ◌<◌, ◌≤◌, ◌⊎◌, List, length, slice_index, true, Option, Some, None, IfSome}
use Rattle.std.specs.List.{AllByRecursion}
use Rattle.dex_insn.specs.Raw as raw
use Rattle.dex_insn.specs.Raw.{Raw, units}
use Rattle.dex_insn.specs.RawInsns.{InsnStands}
use Rattle.dex_insn.specs.Registers.{named_registers}
use Rattle.program_types.specs.Content.{Name}
use Rattle.code_read.specs.Symbols.{InsnHasName}
use Rattle.code_read.specs.inner.Plain.{is_plain}

-- the branch offset, in units
unfoldable pub branch_offset : Raw → Option ℤ
branch_offset (raw.I10t op offset) = Some offset
branch_offset (raw.I20t op offset) = Some offset
branch_offset (raw.I21t op a offset) = Some offset
branch_offset (raw.I22t op a b offset) = Some offset
branch_offset (raw.I30t op offset) = Some offset
branch_offset _ = None

-- The raw instruction has nothing to do with payloads, its index stands for a name if it has one, and it names registers among the first
-- `count`; it has so many units, and this branch offset if it is a branch.
pub record IsVisited (N : ℕ → Name → Type 0) (count : ℕ) (r : Raw) (size : ℕ) (offset : Option ℤ) : Type 0 where
  pub plain : is_plain r ≡ true
  pub named : InsnHasName N r
  pub among : AllByRecursion (λ v. v < count) (named_registers r)
  pub units_are : size ≡ units r
  pub branch : offset ≡ branch_offset r

-- ---- a mark for each unit

-- an instruction begins at a unit with this mark
abbrev pub IsBegun : ℕ → Type 0
IsBegun mark = mark % 2 ≡ 1

-- a branch targets a unit with this mark
abbrev pub IsTargeted : ℕ → Type 0
IsTargeted mark = 2 ≤ mark

-- The unit `offset` units from this one is marked as a target, and is another one.
pub record TargetIsMarked (marks : List ℕ) (at : ℕ) (offset : ℤ) : Type 0 where
  pub unit : ℕ
  pub sum : pos unit ≡ (pos at +ℤ offset)
  pub inside : unit < length marks
  pub other : unit ≢ at
  pub targeted : IsTargeted (slice_index marks unit)

-- The marks after an instruction at this unit, whose branch offset this is if it is a branch: no other unit begins one, and targets stay marked.
pub record AreMarked (at : ℕ) (offset : Option ℤ) (old new : List ℕ) : Type 0 where
  pub size : length new ≡ length old
  pub small : (unit : ℕ) → slice_index old unit < 4 → slice_index new unit < 4
  pub begins : (unit : ℕ) → IsBegun (slice_index new unit) → (unit ≡ at) ⊎ IsBegun (slice_index old unit)
  pub targeted : (unit : ℕ) → IsTargeted (slice_index old unit) → IsTargeted (slice_index new unit)
  pub branch : IfSome offset (TargetIsMarked new at)

-- At this unit is an instruction that was visited, which is marked.
pub record IsPassed (N : ℕ → Name → Type 0) (us : List ℕ) (count at : ℕ) (old new : List ℕ) (size : ℕ) : Type 0 where
  pub insn : Raw
  pub offset : Option ℤ
  pub stands : InsnStands us at insn
  pub visited : IsVisited N count insn size offset
  pub marked : AreMarked at offset old new
