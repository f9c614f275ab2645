-- Names as text: how a listing writes them, in ASCII.
-- Page: docs/LISTING.md, "What a word can be".
use Rattle.std.specs.Prelude.{ℕ, ◌+◌, ◌/◌, ◌%◌, ◌==◌, ◌||◌, ◌&&◌, nat_lt, if◌then◌else◌, List, [], ◌∷◌, ◌++◌}
use Rattle.std.specs.List.{flat_map}
use Rattle.program_types.specs.Content.{Units, Proto, FieldRef, MethodRef}

-- A hexadecimal digit in lower case.
abbrev pub glyph : ℕ → ℕ
glyph d = if nat_lt d 10 then 48 + d else 87 + d

-- `\uXXXX`
abbrev pub escape_text : ℕ → List ℕ
escape_text u = 92 ∷ 117 ∷ glyph (u / 4096 % 16) ∷ glyph (u / 256 % 16) ∷ glyph (u / 16 % 16) ∷ glyph (u % 16) ∷ []

-- A unit of a name: a visible ASCII character is itself, any other unit is escaped. Quotes and
-- backslashes, which no name has, are escaped as well.
abbrev pub name_unit : ℕ → List ℕ
name_unit u =
    if nat_lt 32 u && nat_lt u 127 then (if (u == 34) || (u == 92) then escape_text u else u ∷ [])
    else escape_text u

-- A name or a descriptor.
abbrev pub name_text : Units → List ℕ
name_text us = flat_map name_unit us

-- The units of a prototype: `(P..)R`
abbrev pub proto_units : Proto → Units
proto_units p = 40 ∷ (flat_map (λ t. t) p.params ++ (41 ∷ p.ret))

-- The units of a field: `C->n:T`
abbrev pub field_units : FieldRef → Units
field_units f = f.class ++ (45 ∷ 62 ∷ (f.name ++ (58 ∷ f.ty)))

-- The units of a method: `C->n(P..)R`
abbrev pub method_units : MethodRef → Units
method_units m = m.class ++ (45 ∷ 62 ∷ (m.name ++ proto_units m.proto))
