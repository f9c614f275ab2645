-- Class data with the places of bodies, class by class.
-- Page: "Dalvik Executable format", "class_data_item": code_off.
use Rattle.std.specs.Prelude.{◌≡◌, ℕ, ◌+◌, ◌<◌, ◌≤◌, ◌^◌, List, drop, length, take}
use Rattle.file_layout.specs.inner.Sections.{AddsSome}
use Rattle.file_limits.specs.Wide.{wide_data}
use Rattle.file_put.specs.inner.Data.{PacksData, has_no_members, method_count}
use Rattle.program_types.specs.Content.{Class}
use Rattle.tables_names.specs.Closure.{Five, NameRanks}

-- The class data of the class is added, with the first of these places of bodies, if the class has members; the others are left.
abbrev pub AddsClassData : Five → Class → List ℕ → List ℕ → List ℕ → List ℕ → ℕ → Type 0
AddsClassData s c codes others old new place =
    (others ≡ drop (method_count c) codes) × AddsSome has_no_members (PacksData (NameRanks s)) 1 old new (record { class = c; codes = take (method_count c) codes }) place

-- There is room for the class data of the class, and there are places of bodies for its methods.
abbrev pub HasRoom : Class → List ℕ → List ℕ → Type 0
HasRoom c codes out = (length out + wide_data c < 2 ^ 32) × (method_count c ≤ length codes)
