-- The groups of the faults of a file, in the order in which they are checked.
-- Page: docs/FORMAT.md, "Faults of a file".
use Rattle.std.specs.Prelude.{ℕ, ◌<◌}

-- Header, map and checksums; string_ids to method_ids; the class rows, the static values, the code and its registers.
pub data Group : Type 0 where
  Frame : Group
  Strings : Group
  Types : Group
  Protos : Group
  Fields : Group
  Methods : Group
  Classes : Group
  Values : Group
  Codes : Group
  Registers : Group

-- how many groups are checked before it
abbrev pub turn : Group → ℕ
turn Frame = 0
turn Strings = 1
turn Types = 2
turn Protos = 3
turn Fields = 4
turn Methods = 5
turn Classes = 6
turn Values = 7
turn Codes = 8
turn Registers = 9

-- The one group is checked before the other.
abbrev pub IsCheckedBefore : Group → Group → Type 0
IsCheckedBefore h g = turn h < turn g
