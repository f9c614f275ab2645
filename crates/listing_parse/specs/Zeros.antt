-- The zero of a type: the value of a static field to which the text gives none.
-- Page: docs/LISTING.md, "Values".
use Rattle.std.specs.Prelude.{◌==◌, false, pos, if◌then◌else◌, slice_index}
use Rattle.program_types.specs.Content.{Descriptor, Value}
use Rattle.program_types.specs.Content as content

-- The zero of a type, which the first character of its descriptor tells: Z, B, S, C, I, J, F or D, or another one.
abbrev pub zero_of : Descriptor → Value
zero_of ty =
    if slice_index ty 0 == 90 then content.Boolean false else (
    if slice_index ty 0 == 66 then content.Byte (pos 0) else (
    if slice_index ty 0 == 83 then content.Short (pos 0) else (
    if slice_index ty 0 == 67 then content.Char 0 else (
    if slice_index ty 0 == 73 then content.Int (pos 0) else (
    if slice_index ty 0 == 74 then content.Long (pos 0) else (
    if slice_index ty 0 == 70 then content.Float 0 else (
    if slice_index ty 0 == 68 then content.Double 0 else
    content.Null)))))))
