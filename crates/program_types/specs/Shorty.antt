-- The shorty of a prototype: its short form, in which every class and array type is the one letter L.
-- Page: "Dalvik Executable format", "String syntax": ShortyDescriptor.
use Rattle.std.specs.Prelude.{ℕ, ◌∷◌, map, slice_index, ◌==◌, if◌then◌else◌}
use Rattle.program_types.specs.Content.{Units, Descriptor, Proto}

-- The letter of a type, by the first unit of its descriptor: `L` for `[` (91), otherwise that unit itself.
abbrev pub letter_of : Descriptor → ℕ
letter_of descriptor = if slice_index descriptor 0 == 91 then 76 else slice_index descriptor 0

-- A letter for the return type, then one for each parameter.
abbrev pub shorty : Proto → Units
shorty p = map letter_of (p.ret ∷ p.params)
