-- Values that are no arrays.
use Rattle.program_types.specs.Content.{Value, Array}

-- A value is no array.
abbrev pub IsLeaf : Value → Type 0
IsLeaf (Array vs) = ⊥
IsLeaf _ = Unit {0}
